-- The log of a card: the commands that it has carried out, their responses, and its own meaning.
use Rattle.std.proofs.Common.{◌≡◌, refl, sym, ap, subst, ◌∙◌, ℕ, ◌<◌, List, [], ◌∷◌, ◌++◌, length, Option, Some, None, append_assoc, append-nil}
use Rattle.std.proofs.lemmas.List.{map-append}
use Rattle.std.specs.List.{AllByRecursion}
use Rattle.t1_core.specs.CardSide.{Did, Meaning}
use Rattle.t1_core.specs.Doing.{Agrees, DoesAll, DoesSome, IsOf, IsOfSome, commands_of, entry, meaning_of, most_bytes, ran_with, responses_of}
use Rattle.t1_core.specs.World.{responses}

pub parted : (m : Meaning) (ran : List (List ℕ)) (log : List Did) (d : Did)
    → Agrees m ran (log ++ d ∷ []) → Agrees m ran log × IsOf m (ran ++ commands_of log) d
parted m ran [] d (is, _) = (tt, subst (λ r. IsOf m r d) (sym (append-nil ran)) is)
parted m ran (e ∷ log) d (is, rest) =
    let r = parted m (ran ++ e.command ∷ []) log d rest in (
      (is, r.0),
      subst (λ l. IsOf m l d) (append_assoc ran (e.command ∷ []) (commands_of log)) r.1,
    )

abbrev pub log_with : List Did → Option Did → List Did
log_with log None = log
log_with log (Some d) = log ++ d ∷ []

-- a meaning that agrees with a log agrees with its front and its last entry
pub before_it : (m : Meaning) (log : List Did) (did : Option Did) → Agrees m [] (log_with log did)
    → Agrees m [] log × IsOfSome m (commands_of log) did
before_it m log None h = (h, tt)
before_it m log (Some d) h = parted m [] log d h

pub commands_with : (log : List Did) (did : Option Did)
    → commands_of (log_with log did) ≡ ran_with (commands_of log) did
commands_with log None = refl
commands_with log (Some d) = map-append (λ (x : Did). x.command) log (d ∷ [])

pub does_one : {State : Type 0} (Does : State → Did → State → Type 0) (first mid last : State)
    (log : List Did) (d : Did) → DoesAll Does first log mid → Does mid d last
    → DoesAll Does first (log ++ d ∷ []) last
does_one Does first mid last [] d is goes =
    (last, subst (λ s. Does s d last) is goes, refl)
does_one Does first mid last (e ∷ log) d (next, does, rest) goes =
    (next, does, does_one Does next mid last log d rest goes)

pub does_with : {State : Type 0} (Does : State → Did → State → Type 0) (first mid last : State)
    (log : List Did) (did : Option Did) → DoesAll Does first log mid → DoesSome Does mid did last
    → DoesAll Does first (log_with log did) last
does_with Does first mid last log None all is = subst (λ s. DoesAll Does first log s) (sym is) all
does_with Does first mid last log (Some d) all goes =
    does_one Does first mid last log d all goes.0

abbrev pub IsShort : Did → Type 0
IsShort d = length d.response < most_bytes

pub short_one : (log : List Did) (d : Did) → AllByRecursion IsShort log → IsShort d
    → AllByRecursion IsShort (log ++ d ∷ [])
short_one [] d all is = (is, tt)
short_one (e ∷ log) d (one, all) is = (one, short_one log d all is)

pub short_with : {State : Type 0} (Does : State → Did → State → Type 0) (old new : State)
    (log : List Did) (did : Option Did) → AllByRecursion IsShort log → DoesSome Does old did new
    → AllByRecursion IsShort (log_with log did)
short_with Does old new log None all goes = all
short_with Does old new log (Some d) all goes = short_one log d all goes.1

-- the log's own meaning

entry_at : (log later : List Did) (d : Did)
    → entry (log ++ d ∷ later) (commands_of log ++ d.command ∷ []) ≡ d
entry_at [] later d = refl
entry_at (e ∷ []) later d = refl
entry_at (e ∷ f ∷ log) later d = entry_at (f ∷ log) later d

pub own_meaning : (log later : List Did)
    → Agrees (meaning_of (log ++ later)) (commands_of log) later
own_meaning log [] = tt
own_meaning log (d ∷ later) =
    let e = entry_at log later d in (
      (ap (λ (x : Did). x.response) e, ap (λ (x : Did). x.asks) e),
      subst (λ r. Agrees (meaning_of (log ++ d ∷ later)) r later)
          (map-append (λ (x : Did). x.command) log (d ∷ []))
          (subst (λ l. Agrees (meaning_of l) (commands_of (log ++ d ∷ [])) later)
          (append_assoc log (d ∷ []) later) (own_meaning (log ++ d ∷ []) later)),
    )

pub responses_are : (m : Meaning) (ran : List (List ℕ)) (log : List Did) → Agrees m ran log
    → responses m.does ran (commands_of log) ≡ responses_of log
responses_are m ran [] h = refl
responses_are m ran (d ∷ log) ((does, asks), h) =
    ap (λ r. r ∷ responses m.does (ran ++ d.command ∷ []) (commands_of log)) does
    ∙ ap (λ rs. d.response ∷ rs) (responses_are m (ran ++ d.command ∷ []) log h)
