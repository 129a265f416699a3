-- A dialogue as pairs of commands and responses, which the card has carried out.
use Rattle.std.proofs.Common.{◌≡◌, refl, sym, ap, subst, ◌∙◌, ℕ, suc, ◌+◌, ◌*◌, ◌≤◌, ◌==◌, Bool, true, false, List, [], ◌∷◌, ◌++◌, length, take, slice_index, Option, Some, None, length-append, arith, ◌⊎◌, inl, inr}
use Rattle.std.specs.Prelude.{IfSome, if◌then◌else◌}
use Rattle.std.specs.List.{AllByRecursion}
use Rattle.std.proofs.lemmas.List.{append_cancel_left}
use Rattle.std.proofs.Math.Seq.{take-append_seam}
use Rattle.apdu_core.specs.declared.header.Header.{Header}
use Rattle.apdu_core.specs.CommandBytes.{Command, command_bytes}
use Rattle.apdu_core.specs.StatusWord.{IsStatusWord}
use Rattle.t0_core.specs.Meaning.{Tpdu}
use Rattle.object_card.specs.OneStep.{Operation}
use Rattle.object_card.specs.Refusals.{is_get_response}
use Rattle.object_card.specs.State.{CardState}
use Rattle.apdu_terminal.specs.Apdus.{Pair, may_bring}
use Rattle.apdu_terminal.specs.ApduStops.{IsLeftAfter, IsLeftBefore}
use Rattle.apdu_terminal.specs.CardApdu.{Responds, RespondsToAll}
use Rattle.t1_core.specs.declared.settings.Settings.{Settings}
use Rattle.t1_core.specs.declared.terminal.Fault.{Fault}
use Rattle.t1_core.specs.declared.terminal.Outcome.{Outcome}
use Rattle.t1_core.specs.declared.terminal.Outcome.TheVariants.{NotCarriedOut, Unknown, InPart}
use Rattle.t1_core.specs.declared.terminal.Phase.{Phase}
use Rattle.t1_core.specs.declared.terminal.Phase.TheVariants.{Over, GivenUp}
use Rattle.t1_core.specs.CardSide.{Did, no_requests}
use Rattle.t1_core.specs.Carried.{answers_in}
use Rattle.t1_core.specs.Doing.{DoesAll, commands_of, entry, meaning_of, responses_of}
use Rattle.t1_core.specs.Mild.{Enough, IsSize, count_of}
use Rattle.t1_core.specs.TerminalSide.{Terminal, fault_in, has_stopped, is_ready}
use Rattle.t1_core.specs.World.{IsFrontOf, IsTrue}
use Rattle.t1_terminal.specs.CardCommand.{DoesAt, status_bytes}
use Rattle.t1_terminal.specs.Operated.{AreSent, IsLeft, IsSent, commands_in, most_response, response_bytes, responses_in, told_of}

-- ---- lists

pub last_same : {A : Type 0} (xs : List A) (a b : A) → xs ++ a ∷ [] ≡ xs ++ b ∷ [] → a ≡ b
last_same xs a b e = let last = append_cancel_left xs (a ∷ []) (b ∷ []) e in cc

pub sent_both : (xs ys : List Pair) → AreSent xs → AreSent ys → AreSent (xs ++ ys)
sent_both [] ys first second = second
sent_both (x ∷ xs) ys (one, first) second = (one, sent_both xs ys first second)

-- ---- a response

pub same_pair : (p q : Pair) → p.command ≡ q.command → response_bytes p ≡ response_bytes q → p ≡ q
same_pair p q same bytes =
    let n : length p.content ≡ length q.content =
    omega (
      arith,
      ap length bytes,
      length-append p.content (status_bytes p.status),
      length-append q.content (status_bytes q.status),
    ) in
    let content : p.content ≡ q.content =
    sym (take-append_seam p.content (status_bytes p.status))
    ∙ ap (take (length p.content)) bytes ∙ ap (λ k. take k (response_bytes q)) n
    ∙ take-append_seam q.content (status_bytes q.status) in
    let status : status_bytes p.status ≡ status_bytes q.status =
    append_cancel_left q.content _ _
    (ap (λ (bs : List ℕ). bs ++ status_bytes p.status) (sym content) ∙ bytes) in
    let pair : Command → List ℕ → List ℕ → Pair = λ c bs sw.
    record { command = c; content = bs; status = (slice_index sw 0, slice_index sw 1) } in
    ap (λ c. pair c p.content (status_bytes p.status)) same
    ∙ ap (λ bs. pair q.command bs (status_bytes p.status)) content
    ∙ ap (pair q.command q.content) status

module _ {State : Type 0} (Own : State → ℕ → Tpdu → State → Type 0) where
  -- what the card has done with a command
  record IsOne (old new : State) (d : Did) (c : Command) (p : Pair) : Type 0 where
    of : p.command ≡ c
    response : d.response ≡ response_bytes p
    few : length p.content ≤ may_bring c.le
    status : IsStatusWord p.status
    goes : Responds Own old p new

  one : (old new : State) (d : Did) (c : Command) → DoesAt Own old d new → IsSent c
      → d.command ≡ command_bytes c → (p : Pair) × IsOne old new d c p
  one old new d c does sent is =
      let r = (does.command c sent.0 is).responds sent.1 in
      (r.0, record { of = r.1; few = r.2; goes = r.3; response = r.4; status = r.5 })

  responded : (old new : State) (d : Did) (p : Pair) → DoesAt Own old d new → IsSent p.command
      → d.command ≡ command_bytes p.command → d.response ≡ response_bytes p
      → Responds Own old p new
  responded old new d p does sent is bytes =
      let (q, it) = one old new d p.command does sent is in
      let Q : Pair → Type 0 = λ x. Responds Own old x new in
      subst Q (same_pair q p it.of (sym it.response ∙ bytes)) it.goes

  -- the card has carried out the newest command, whose response has not arrived
  pub record IsMore (first last : State) (did : List Did) (pairs : List Pair) (c : Command)
      (p : Pair) : Type 0 where
    pub of : p.command ≡ c
    pub status : IsStatusWord p.status
    pub goes : RespondsToAll Own first (pairs ++ p ∷ []) last
    pub many : length did ≡ length pairs + 1
    pub responses : responses_of did ≡ responses_in (pairs ++ p ∷ [])

  abbrev pub Stopped : State → State → List Did → List Pair → Command → Type 0
  Stopped first last did pairs c =
      (RespondsToAll Own first pairs last × (length did ≡ length pairs))
      ⊎ ((p : Pair) × IsMore first last did pairs c p)

  pub stops : (first last : State) (did : List Did) (pairs : List Pair) (c : Command)
      → DoesAll (DoesAt Own) first did last
      → IsFrontOf (commands_of did) (commands_in pairs ++ command_bytes c ∷ [])
      → IsFrontOf (responses_in pairs) (responses_of did)
      → length did ≤ length (responses_in pairs) + 1 → AreSent pairs → IsSent c
      → Stopped first last did pairs c
  stops first last [] [] c does commands responses few all sent = inl (does, refl)
  stops first last (d ∷ []) [] c (mid, is, stays) commands responses few all sent =
      let e = commands.1 in
      let same : d.command ≡ command_bytes c = cc in
      let (p, it) = one first mid d c is sent same in
      inr (
        p,
        record {
          of = it.of;
          status = it.status;
          goes = (mid, it.goes, stays);
          many = refl;
          responses = ap (λ bs. bs ∷ []) it.response;
        },
      )
  stops first last (d ∷ e ∷ did) [] c does commands responses few all sent =
      absurd (omega (arith, few))
  stops first last [] (p ∷ pairs) c does commands responses few all sent =
      let e = responses.1 in absurd (cc)
  stops first last (d ∷ did) (p ∷ pairs) c (mid, is, rest) commands responses few all sent =
      let e = commands.1 in
      let f = responses.1 in
      let same : d.command ≡ command_bytes p.command = cc in
      let others : commands_of did ++ commands.0 ≡ commands_in pairs ++ command_bytes c ∷ [] = cc in
      let bytes : response_bytes p ≡ d.response = cc in
      let answers : responses_in pairs ++ responses.0 ≡ responses_of did = cc in
      let goes = responded first mid d p is all.0 same (sym bytes) in
      elim (stops mid last did pairs c rest (commands.0, others) (responses.0, answers)
      (omega (arith, few)) all.1 sent) [
        | inl done ↦ inl ((mid, goes, done.0), ap suc done.1)
        | inr m ↦ inr (
          m.0,
          record {
            of = m.1.of;
            status = m.1.status;
            goes = (mid, goes, m.1.goes);
            many = omega (arith, m.1.many);
            responses = ap (λ bs. bs ∷ responses_of did) (sym bytes)
                ∙ ap (λ rs. response_bytes p ∷ rs) m.1.responses;
          },
        )
      ]

  pub all_responded : (first last : State) (did : List Did) (pairs : List Pair)
      → DoesAll (DoesAt Own) first did last → commands_of did ≡ commands_in pairs
      → responses_of did ≡ responses_in pairs → AreSent pairs → RespondsToAll Own first pairs last
  all_responded first last [] [] does commands responses all = does
  all_responded first last [] (p ∷ pairs) does commands responses all = absurd (cc)
  all_responded first last (d ∷ did) [] does commands responses all = absurd (cc)
  all_responded first last (d ∷ did) (p ∷ pairs) (mid, is, rest) commands responses all =
      let same : d.command ≡ command_bytes p.command = cc in
      let others : commands_of did ≡ commands_in pairs = cc in
      let bytes : d.response ≡ response_bytes p = cc in
      let answers : responses_of did ≡ responses_in pairs = cc in (
        mid,
        responded first mid d p is all.0 same bytes,
        all_responded mid last did pairs rest others answers all.1,
      )

  -- ---- how long responses are

  abbrev IsShort : Did → Type 0
  IsShort d = (d.asks ≡ no_requests) × (length d.response ≤ most_response)

  few_asked : (le : Option ℕ) → IfSome le (λ n. (1 ≤ n) × (n ≤ 256)) → may_bring le ≤ 256
  few_asked None in_range = omega arith
  few_asked (Some n) in_range = in_range.1

  short : (old new : State) (d : Did) (c : Command) → DoesAt Own old d new → IsSent c
      → d.command ≡ command_bytes c → IsShort d
  short old new d c is sent same =
      let (p, it) = one old new d c is sent same in (
        is.asks,
        omega (
          arith,
          ap length it.response,
          length-append p.content (status_bytes p.status),
          it.few,
          few_asked c.le sent.0.sizes.le_in_range,
        ),
      )

  pub all_short : (first last : State) (did : List Did) (pairs : List Pair) (c : Command)
      → DoesAll (DoesAt Own) first did last
      → IsFrontOf (commands_of did) (commands_in pairs ++ command_bytes c ∷ []) → AreSent pairs
      → IsSent c → AllByRecursion IsShort did
  all_short first last [] pairs c does front all sent = tt
  all_short first last (d ∷ []) [] c (mid, is, rest) front all sent =
      let e = front.1 in
      let same : d.command ≡ command_bytes c = cc in
      (short first mid d c is sent same, tt)
  all_short first last (d ∷ n ∷ did) [] c does front all sent = let e = front.1 in absurd (cc)
  all_short first last (d ∷ did) (p ∷ pairs) c (mid, is, rest) front all sent =
      let e = front.1 in
      let same : d.command ≡ command_bytes p.command = cc in
      let others : commands_of did ++ front.0 ≡ commands_in pairs ++ command_bytes c ∷ [] = cc in (
        short first mid d p.command is all.0 same,
        all_short mid last did pairs c rest (front.0, others) all.1 sent,
      )

  entry_short : (did : List Did) → AllByRecursion IsShort did → (ran : List (List ℕ))
      → IsShort (entry did ran)
  entry_short [] all ran = (refl, omega arith)
  entry_short (d ∷ did) all [] = (refl, omega arith)
  entry_short (d ∷ did) all (c ∷ []) = all.0
  entry_short (d ∷ did) all (c ∷ e ∷ ran) = entry_short did all.1 (e ∷ ran)

  pub enough : (did : List Did) (f : ℕ) (settings : Settings) → AllByRecursion IsShort did
      → 2 * f ≤ settings.tries → f ≤ settings.extensions → most_response ≤ settings.limit
      → Enough (meaning_of did) f settings
  enough did f settings all tries extensions limit = record {
    tries = tries;
    extensions = λ ran.
        let e = (entry_short did all ran).0 in
        subst (λ asks. asks.extensions + count_of asks.size + f ≤ settings.extensions) (sym e)
        (omega (arith, extensions));
    sizes = λ ran.
        let e = (entry_short did all ran).0 in subst (λ asks. IsSize asks.size) (sym e) tt;
    fits = λ ran.
        let s = (entry_short did all ran).1 in omega (arith, s, limit);
  }

-- ---- a terminal that has stopped

pub gave_up : (p : Phase) (t : Terminal) (why : Fault) → fault_in p t ≡ Some why
    → (has_stopped p ≡ true)
    × ((got : List ℕ) (answers : List (List ℕ)) → answers_in p got answers ≡ answers)
gave_up (GivenUp cause) t why e = (refl, λ got answers. refl)
gave_up _ t why e = absurd (cc)

pub is_over : (p : Phase) (t : Terminal) → has_stopped p ≡ true → fault_in p t ≡ None
    → p ≡ Over
is_over Over t stopped none = refl
is_over _ t stopped none = absurd (cc)

pub ready_stops : (p : Phase) (t : Terminal) → is_ready p ≡ true
    → (has_stopped p ≡ true) × (fault_in p t ≡ None)
ready_stops Over t e = (refl, refl)
ready_stops _ t e = absurd (cc)

-- ---- the outcome of a fault

left_by_case : (h : Header) (outcome : Outcome) (old new : CardState) (o : Operation)
    (fetches more : Bool) → is_get_response h ≡ fetches → (h.cla == 0x10) ≡ more
    → (IsLeftBefore old o h new × (outcome ≡ InPart → ⊥))
    ⊎ (IsLeftAfter old o h new × (outcome ≡ NotCarriedOut → ⊥))
    → IsLeft (if fetches then InPart else if more then NotCarriedOut else outcome) old o new
left_by_case h outcome old new o true more f m (inl (b, wrong)) = b.carried_out f
left_by_case h outcome old new o true more f m (inr (a, wrong)) = a.still f
left_by_case h outcome old new o false true f m (inl (b, wrong)) = b.kept f
left_by_case h outcome old new o false true f m (inr (a, wrong)) = a.kept m
left_by_case h NotCarriedOut old new o false false f m (inl (b, wrong)) = b.kept f
left_by_case h Unknown old new o false false f m (inl (b, wrong)) = inl (b.kept f)
left_by_case h InPart old new o false false f m (inl (b, wrong)) = absurd (wrong refl)
left_by_case h NotCarriedOut old new o false false f m (inr (a, wrong)) = absurd (wrong refl)
left_by_case h Unknown old new o false false f m (inr (a, wrong)) = inr (a.carried_out m)
left_by_case h InPart old new o false false f m (inr (a, wrong)) = a.carried_out m

pub left_by : (h : Header) (outcome : Outcome) (old new : CardState) (o : Operation)
    → (IsLeftBefore old o h new × (outcome ≡ InPart → ⊥))
    ⊎ (IsLeftAfter old o h new × (outcome ≡ NotCarriedOut → ⊥))
    → IsLeft (told_of h outcome) old o new
left_by h outcome old new o which =
    left_by_case h outcome old new o (is_get_response h) (h.cla == 0x10) refl refl which

-- the outcome of the newest command
pub not_before : (outcome : Outcome) (ran answers : List (List ℕ)) → length ran ≡ length answers
    → IsTrue outcome ran answers → outcome ≡ InPart → ⊥
not_before outcome ran answers same told is =
    let more : length ran ≡ length answers + 1 = subst (λ o. IsTrue o ran answers) is told in
    omega (arith, same, more)

pub not_after : (outcome : Outcome) (ran answers : List (List ℕ))
    → length ran ≡ length answers + 1 → IsTrue outcome ran answers → outcome ≡ NotCarriedOut → ⊥
not_after outcome ran answers more told is =
    let same : length ran ≡ length answers = subst (λ o. IsTrue o ran answers) is told in
    omega (arith, same, more)
