-- With twice as many tries as blocks that fail to arrive, the terminal does not give up.
use Rattle.std.proofs.Common.{◌≡◌, ◌≢◌, refl, sym, ap, subst, ◌∙◌, ℕ, zero, suc, ◌+◌, ◌-◌, ◌*◌, ◌≤◌, Bool, true, false, List, [], ◌∷◌, ◌++◌, length, length-append, append_assoc, Option, Some, None, arith, ◌⊎◌, inl, inr}
use Rattle.std.proofs.lemmas.List.{take-append-drop}
use Rattle.t1_core.specs.declared.line.Fate.{Fate}
use Rattle.t1_core.specs.declared.line.Fate.TheVariants.{Delivers, Damages, Loses}
use Rattle.t1_core.specs.declared.line.Fates.{Fates}
use Rattle.t1_core.specs.declared.pcb.BlockReason.{BlockReason}
use Rattle.t1_core.specs.declared.pcb.BlockReason.TheVariants.{Edc, Other}
use Rattle.t1_core.specs.declared.settings.Settings.{Settings}
use Rattle.t1_core.specs.declared.terminal.Cause.{Cause}
use Rattle.t1_core.specs.declared.terminal.Cause.TheVariants.{TriesSpent, ExtensionsSpent}
use Rattle.t1_core.specs.declared.terminal.Out.{Out}
use Rattle.t1_core.specs.declared.terminal.Phase.TheVariants.{GivenUp}
use Rattle.t1_core.specs.Block.{other, is_size}
use Rattle.t1_core.specs.CardSide.{Meaning}
use Rattle.t1_core.specs.TerminalSide.{has_stopped}
use Rattle.t1_core.specs.Mild.{bad_of, bad, Stays, IsMild, Enough, IsSize, count_of}
use Rattle.t1_core.specs.World.{World, run, start}
use Rattle.t1_core.proofs.Places.{Kept, Spot, Place, Going, Opens, Behind, Taken, Waits, Grows, Between, Sent, Given_up, Finished, asking, response_in, uses, cut_again, proceeds, starts, out_at, world_of, runs, heard, misses, comes, comes_next, numbered, is_long, IsHeard, is_heard, grows, garbled, garbled_by, step, is_step}
use Rattle.t1_core.proofs.Holding.{first, first_is, moves}
use Rattle.t1_core.proofs.Bits.{other_is_not}

abbrev pair : Bool → Bool → Bool × Bool
pair a b = (a, b)

both : {a b c d : Bool} → a ≡ c → b ≡ d → pair a b ≡ pair c d
both {a} {b} {c} {d} p q = ap (λ x. pair x b) p ∙ ap (λ y. pair c y) q

abbrev one_if : Bool → ℕ
one_if true = 1
one_if false = 0

abbrev one_if_not : Bool → ℕ
one_if_not true = 0
one_if_not false = 1

-- a try that the terminal has used to ask
abbrev spare : Spot → ℕ
spare (Behind asks collected rest answering) = one_if asks
spare _ = 0

module _ (m : Meaning) (before : List (List ℕ)) (f : ℕ) where
  -- N(S) and N(R) of the terminal
  abbrev numbers : Place → Bool × Bool
  numbers p = let t = (world_of m before p).terminal in (t.number, t.due)

  pub record Quiet (left tries most : ℕ) (settings : Settings) (response : List ℕ) : Type 0 where
    pub tries_left : most ≤ tries
    pub left_le : left ≤ f
    pub enough : Enough m f settings
    pub fits : length response ≤ settings.limit

  -- the extensions are enough for the requests of the card
  abbrev Grants : ℕ → Kept → Spot → (extensions : ℕ) → Type 0
  Grants left k (Waits rest n size granted) extensions =
      (n + count_of size + left + one_if_not granted ≤ extensions) × IsSize size
  Grants left k (Grows rest size granted) extensions =
      (left + one_if_not granted ≤ extensions) × (is_size size ≡ true)
  Grants left k (Between got b bytes) extensions = Unit {0}
  Grants left k (Sent first got rest) extensions = Unit {0}
  Grants left k _ extensions = k.settings.extensions ≤ extensions

  -- `left` blocks may fail to arrive before the next step
  abbrev Calm : ℕ → Kept → Spot → (tries extensions : ℕ) → Type 0
  Calm left k s tries extensions =
      Quiet left tries (2 * left + spare s) k.settings (response_in k s)
      × Grants left k s extensions

  abbrev CalmAt : ℕ → Place → Type 0
  CalmAt left (Going k s why tries extensions) = Calm left k s tries extensions
  CalmAt left (Given_up w cause) = ⊥
  CalmAt left (Finished w) = Unit {0}

  -- without progress `left` more may fail, with progress all `f`
  abbrev Goes : ℕ → Bool × Bool → Place → Type 0
  Goes left old p = ((numbers p ≡ old) × CalmAt left p) ⊎ ((numbers p ≡ old → ⊥) × CalmAt f p)

  quiet : {left tries most : ℕ} {settings : Settings} {response : List ℕ} (now need : ℕ)
      (other : List ℕ) → Quiet left tries most settings response → need ≤ now
      → length other ≤ settings.limit → Quiet left now need settings other
  quiet now need other q t fits =
      record { tries_left = t; left_le = q.left_le; enough = q.enough; fits = fits }

  afresh : (settings : Settings) (response : List ℕ) → Enough m f settings
      → length response ≤ settings.limit → Quiet f settings.tries (2 * f + 0) settings response
  afresh settings response e fits =
      let t = e.tries in
      record { tries_left = omega (arith, t); left_le = omega arith; enough = e; fits = fits }

  -- one block fails to arrive
  fewer : {left tries most : ℕ} {settings : Settings} {response : List ℕ} (now need : ℕ)
      → need + 1 ≤ most → tries ≤ now + 1 → Quiet (left + 1) tries most settings response
      → Quiet left now need settings response
  fewer now need le less q =
      let t = q.tries_left in
      let l = q.left_le in record {
        tries_left = omega (arith, le, less, t);
        left_le = omega (arith, l);
        enough = q.enough;
        fits = q.fits;
      }

  -- one of `n` tries or extensions is used
  uses_goes : (cause : Cause) (n left : ℕ) (w : World) (again : ℕ → Place) (old : Bool × Bool)
      → 1 ≤ n → ((i : ℕ) → i + 1 ≡ n → Goes left old (again i))
      → Goes left old (uses cause n w again)
  uses_goes cause zero left w again old some h = absurd (omega (arith, some))
  uses_goes cause (suc n) left w again old some h = h n (omega arith)

  -- after one failure more the terminal may have asked again, with a try less
  asked : (k : Kept) (s : Spot) (left tries now extensions : ℕ) → tries ≤ now + 1
      → Calm (left + 1) k s tries extensions → Calm left k (asking s) now extensions
  asked k (Behind asks collected rest answering) left tries now extensions le h =
      (fewer now (2 * left + 1) (omega arith) le h.0, h.1)
  asked k (Waits rest n size granted) left tries now extensions le h =
      let x = h.1.0 in (fewer now (2 * left + 0) (omega arith) le h.0, (omega (arith, x), h.1.1))
  asked k (Grows rest size granted) left tries now extensions le h =
      let x = h.1.0 in (fewer now (2 * left + 0) (omega arith) le h.0, (omega (arith, x), h.1.1))
  asked k _ left tries now extensions le h =
      (fewer now (2 * left + 0) (omega arith) le h.0, h.1)

  -- a terminal that has asked again has fewer tries, so the other case follows
  unasked : (k : Kept) (s : Spot) (left tries extensions : ℕ)
      → Calm left k (asking s) tries extensions → Calm left k s tries extensions
  unasked k (Behind false collected rest answering) left tries extensions h =
      let q = h.0.tries_left in
      (quiet tries (2 * left + 0) [] h.0 (omega (arith, q)) h.0.fits, h.1)
  unasked k (Waits rest n size true) left tries extensions h =
      let x = h.1.0 in (h.0, (omega (arith, x), h.1.1))
  unasked k (Grows rest size true) left tries extensions h =
      let x = h.1.0 in (h.0, (omega (arith, x), h.1.1))
  unasked k _ left tries extensions h = h

  weaker : (k : Kept) (s : Spot) (left tries extensions : ℕ)
      → Calm (left + 1) k s tries extensions → Calm left k s tries extensions
  weaker k s left tries extensions h =
      unasked k s left tries extensions
      (asked k s left tries tries extensions (omega arith) h)

  missed : (why : BlockReason) (out : Out) (k : Kept) (s : Spot) (left tries extensions : ℕ)
      → Calm (left + 1) k s tries extensions
      → Goes left (k.number, k.due) (misses m before why out k s tries extensions)
  missed why out k (Opens rest asks) left zero extensions h =
      absurd (let q = h.0.tries_left in omega (arith, q))
  missed why out k (Opens rest asks) left (suc n) extensions h =
      inl (refl, asked k (Opens rest asks) left (suc n) n extensions (omega arith) h)
  missed why out k s left tries extensions h =
      let q = h.0.tries_left in
      uses_goes TriesSpent tries left _ _ _ (omega (arith, q))
      (λ i e. inl (refl, asked k s left tries i extensions (omega (arith, e)) h))

  starts_calm : (k : Kept) (rest : List ℕ) (n : ℕ) (size : Option ℕ) (tries extensions left : ℕ)
      → Quiet left tries (2 * left + 0) k.settings (k.last ++ rest)
      → n + count_of size + left ≤ extensions → IsSize size
      → Calm left k (asking (starts rest n size)) tries extensions
  starts_calm k rest (suc n) size tries extensions left q x s = (q, (omega (arith, x), s))
  starts_calm k rest zero (Some size) tries extensions left q x s = (q, (omega (arith, x), s))
  starts_calm k rest zero None tries extensions left q x s = (q, tt)

  heard_stays : (k : Kept) (s : Spot)
      → pair (heard m before k s).0.number (heard m before k s).0.due ≡ pair k.number k.due
  heard_stays k (Behind false collected [] answering) = refl
  heard_stays k (Behind false collected (b ∷ bytes) answering) = refl
  heard_stays k (Waits rest n size true) = refl
  heard_stays k (Grows rest size true) = refl
  heard_stays k _ = refl

  heard_calm : (k : Kept) (s : Spot) (left tries extensions : ℕ) → Calm left k s tries extensions
      → Calm left (heard m before k s).0 (asking (heard m before k s).1) tries extensions
  heard_calm k (Behind false collected [] answering) left tries extensions h =
      let ran : List (List ℕ) = k.done ++ (collected ++ k.field) ∷ [] in
      let done : List (List ℕ) = before ++ ran in
      let l = h.0.left_le in let x = h.1 in
      let y = h.0.enough.extensions done in
      starts_calm (runs m before k ran) _ (m.asks done).extensions (m.asks done).size tries
      extensions left
      (quiet tries (2 * left + 0) _ h.0 h.0.tries_left
      (subst (λ r. length r ≤ k.settings.limit) (sym (take-append-drop k.ifsd (m.does done)))
      (h.0.enough.fits done))) (omega (arith, l, x, y)) (h.0.enough.sizes done)
  heard_calm k (Behind false collected (b ∷ bytes) answering) left tries extensions h = h
  heard_calm k (Waits rest n size true) left tries extensions h =
      let x = h.1.0 in
      starts_calm k rest n size tries extensions left h.0 (omega (arith, x)) h.1.1
  heard_calm k (Grows rest size true) left tries extensions h = (h.0, tt)
  heard_calm k (Between got b bytes) left tries extensions h = (
    quiet tries (2 * left + 0) _ h.0 h.0.tries_left
        (subst (λ r. length (got ++ r) ≤ k.settings.limit)
        (sym (take-append-drop k.ifsd (b ∷ bytes))) h.0.fits),
    tt,
  )
  heard_calm k (Sent first got rest) left tries extensions h = (
    quiet tries (2 * left + 0) _ h.0 h.0.tries_left
        (subst (λ r. length (got ++ r) ≤ k.settings.limit) (sym (cut_again k.ifsd k.last rest))
        h.0.fits),
    h.1,
  )
  heard_calm k _ left tries extensions h = h

  -- the card's block arrives

  grows_goes : (v : Bool) (out : Out) (k : Kept) (rest : List ℕ) (size : ℕ) (granted : Bool)
      (left tries extensions : ℕ)
      → is_size size ≡ v → Calm left k (Grows rest size false) tries extensions
      → Goes left (k.number, k.due) (grows m before v out k rest size granted tries extensions)
  grows_goes true out k rest size granted left tries extensions e h =
      let x = h.1.0 in
      uses_goes ExtensionsSpent extensions left _ _ _ (omega (arith, x))
      (λ i is. inl (refl, (h.0, (omega (arith, x, is), e))))
  grows_goes false out k rest size granted left tries extensions e h = absurd (let s = h.1.1 in cc)

  proceeds_calm : (k : Kept) (todo : List (List ℕ)) (w : World) → Enough m f k.settings
      → CalmAt f (proceeds k todo w)
  proceeds_calm k [] w e = tt
  proceeds_calm k (c ∷ cs) w e = (afresh k.settings [] e (omega arith), omega arith)

  proceeds_numbers : (k : Kept) (todo : List (List ℕ)) (w : World) → pair w.terminal.number
      w.terminal.due ≡ pair k.number k.due
      → numbers (proceeds k todo w) ≡ pair k.number k.due
  proceeds_numbers k [] w e = e
  proceeds_numbers k (c ∷ cs) w e = refl

  -- no response is too long
  not_long : (k : Kept) (got rest : List ℕ) → is_long k got ≡ true
      → length (got ++ (k.last ++ rest)) ≤ k.settings.limit → ⊥
  not_long k got rest e le =
      let n = length-append got (k.last ++ rest) in
      let l = length-append k.last rest in
      absurd (grind (arith, e, le, n, l))

  next_goes : (v : Bool) (out : Out) (k : Kept) (number : Bool) (got rest : List ℕ)
      (left tries extensions : ℕ) → is_long k got ≡ v
      → Quiet left tries (2 * left + 0) k.settings (got ++ (k.last ++ rest))
      → Goes left (number, k.due) (comes_next m before v out k got rest tries extensions)
  next_goes true out k number got rest left tries extensions e h =
      absurd (not_long k got rest e h.fits)
  next_goes false out k number got [] left tries extensions e h =
      let now : Kept = record k {
        due = other k.due;
        answers = k.answers ++ (got ++ k.last) ∷ [];
      } in inr (
        λ e. other_is_not k.due (ap (λ x. x.1) (sym (proceeds_numbers now k.todo _ refl) ∙ e)),
        proceeds_calm now k.todo _ h.enough,
      )
  next_goes false out k number got (b ∷ bytes) left tries extensions e h = inr (
    λ e. other_is_not k.due (ap (λ x. x.1) e),
    (
      afresh k.settings _ h.enough
          (subst (λ r. length r ≤ k.settings.limit) (sym (append_assoc got k.last (b ∷ bytes)))
          h.fits),
      tt,
    ),
  )

  comes_goes : (out : Out) (k : Kept) (s : Spot) (left tries extensions : ℕ) → IsHeard k s
      → Calm left k (asking s) tries extensions
      → Goes left (k.number, k.due) (comes m before out k s tries extensions)
  comes_goes out k (Opens rest asks) left tries extensions a h =
      let l = h.0.left_le in let e = h.0.enough.tries in inl (
        refl,
        (quiet k.settings.tries (2 * left + 0) [] h.0 (omega (arith, l, e)) h.0.fits, h.1),
      )
  comes_goes out k (Behind asks collected rest answering) left tries extensions a h =
      let q = h.0.tries_left in
      uses_goes TriesSpent tries left _ _ _ (omega (arith, q)) (λ i e. inl (
        refl,
        (quiet i (2 * left + 0) [] h.0 (omega (arith, e, q)) h.0.fits, h.1),
      ))
  comes_goes out k (Taken collected b bytes) left tries extensions a h = inr (
    λ e. other_is_not k.number (ap (λ x. x.0) e),
    (afresh k.settings [] h.0.enough (omega arith), h.1),
  )
  comes_goes out k (Waits rest n size granted) left tries extensions a h =
      let x = h.1.0 in
      uses_goes ExtensionsSpent extensions left _ _ _ (omega (arith, x))
      (λ i is. inl (refl, (h.0, (omega (arith, x, is), h.1.1))))
  comes_goes out k (Grows rest size granted) left tries extensions a h =
      grows_goes (is_size size) out k rest size granted left tries extensions refl h
  comes_goes out k (Between got b bytes) left tries extensions a h = absurd a
  comes_goes out k (Sent first got rest) left tries extensions a h =
      next_goes (is_long k got) out (numbered first k) k.number got rest left tries extensions refl
      h.0

  garbled_goes : (up : Fate) (k : Kept) (s : Spot) (why : BlockReason) (left tries extensions : ℕ)
      → Calm (left + 1) k s tries extensions
      → Goes left (k.number, k.due) (garbled m before up k s why tries extensions)
  garbled_goes up k s why left tries extensions h =
      garbled_by m before (Goes left (k.number, k.due)) up k s why tries extensions
      (λ now. missed now (out_at k s why) k s left tries extensions h)
      (λ a. comes_goes (out_at k s why) k s left tries extensions a
      (asked k s left tries tries extensions (omega arith) h))

  -- the card's reply does not arrive
  replied_goes : (now : BlockReason) (out : Out) (k : Kept) (s : Spot) (left tries extensions : ℕ)
      → Calm (left + 1) k s tries extensions
      → Goes left (k.number, k.due)
      (misses m before now out (heard m before k s).0 (heard m before k s).1 tries extensions)
  replied_goes now out k s left tries extensions h =
      let j : Kept = (heard m before k s).0 in
      let r : Spot = (heard m before k s).1 in
      subst (λ n. Goes left n (misses m before now out j r tries extensions)) (heard_stays k s)
      (missed now out j r left tries extensions (unasked j r (left + 1) tries extensions
      (heard_calm k s (left + 1) tries extensions h)))

  -- one exchange; `bad_of` counts the blocks that fail to arrive
  step_goes : (down up : Fate) (p : Place) (left : ℕ)
      → CalmAt (left + (bad_of down + bad_of up)) p
      → Goes left (numbers p) (step m before down up p)
  step_goes down up (Given_up w cause) left h = absurd h
  step_goes down up (Finished w) left h = inl (refl, tt)
  step_goes Delivers Delivers (Going k s why tries extensions) left h =
      let h0 : Calm left k s tries extensions =
      subst (λ l. Calm l k s tries extensions) (omega arith) h in
      subst (λ n. Goes left n (step m before Delivers Delivers (Going k s why tries extensions)))
      (heard_stays k s) (comes_goes (out_at k s why) _ _ left tries extensions
      (is_heard m before k s) (heard_calm k s left tries extensions h0))
  step_goes Delivers Damages (Going k s why tries extensions) left h =
      replied_goes Edc (out_at k s why) k s left tries extensions h
  step_goes Delivers Loses (Going k s why tries extensions) left h =
      replied_goes Other (out_at k s why) k s left tries extensions h
  step_goes Damages Delivers (Going k s why tries extensions) left h =
      garbled_goes Delivers k s why left tries extensions h
  step_goes Damages up (Going k s why tries extensions) left h =
      garbled_goes up k s why left tries extensions (weaker k s (left + 1) tries extensions
      (subst (λ l. Calm l k s tries extensions) (omega arith) h))
  step_goes Loses Delivers (Going k s why tries extensions) left h =
      missed Other (out_at k s why) k s left tries extensions h
  step_goes Loses up (Going k s why tries extensions) left h =
      missed Other (out_at k s why) k s left tries extensions (weaker k s (left + 1) tries
      extensions (subst (λ l. Calm l k s tries extensions) (omega arith) h))

  -- all worlds

  stays_calm : (fates : List Fates) (left : ℕ) (p : Place) (cause : Cause) → CalmAt left p
      → IsMild m f left (world_of m before p) fates
      → (run m fates (world_of m before p)).terminal.phase ≡ GivenUp cause → ⊥
  stays_calm [] left (Given_up w c) cause h mild = λ e. h
  stays_calm [] left (Finished w) cause h mild = λ e. absurd (cc)
  stays_calm [] left (Going k s why tries extensions) cause h mild =
      λ e. absurd (let no = sym (moves s) ∙ ap has_stopped e in cc)
  stays_calm (x ∷ xs) left p cause h mild =
      let w : World = world_of m before p in
      let q : Place = step m before x.down x.up p in
      let Ends : World → Type 0 = λ v.
      ((Stays w.terminal v.terminal → IsMild m f (left - bad x) v xs)
      × ((Stays w.terminal v.terminal → ⊥) → IsMild m f f v xs))
      → (run m xs v).terminal.phase ≡ GivenUp cause → ⊥ in
      subst Ends (sym (is_step m before x.down x.up p)) (λ on.
      elim (step_goes x.down x.up p (left - bad x)
      (subst (λ l. CalmAt l p) (let le = mild.0 in omega (arith, le)) h)) [
        | inl g ↦
            stays_calm xs (left - bad x) q cause g.1 (on.0 (ap (λ n. n.0) g.0, ap (λ n. n.1) g.0))
        | inr g ↦ stays_calm xs f q cause g.1 (on.1 (λ s. g.0 (both s.0 s.1)))
      ]) (mild.1, mild.2)

  first_calm : (settings : Settings) (commands : List (List ℕ)) → Enough m f settings
      → CalmAt f (first before settings commands)
  first_calm settings [] e = tt
  first_calm settings (c ∷ cs) e = (afresh settings [] e (omega arith), omega arith)

pub never_given_up : (m : Meaning) (f : ℕ) (settings : Settings)
    (before commands : List (List ℕ)) (fates : List Fates)
    (cause : Cause) → Enough m f settings → IsMild m f f (start settings before commands) fates
    → (run m fates (start settings before commands)).terminal.phase ≢ GivenUp cause
never_given_up m f settings before commands fates cause e mild =
    let is = first_is m before settings commands in
    subst (λ w. (run m fates w).terminal.phase ≡ GivenUp cause → ⊥) (sym is)
    (stays_calm m before f fates f (first before settings commands) cause
    (first_calm m before f settings commands e) (subst (λ w. IsMild m f f w fates) is mild))
