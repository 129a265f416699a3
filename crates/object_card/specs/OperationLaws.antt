-- A SELECT or a GET DATA, with all its fetches, is an operation in one step.
use Rattle.std.proofs.Common.{◌≡◌, ℕ, ◌<◌, ◌≤◌, ◌/◌, ◌%◌, List, [], ◌∷◌, ◌++◌, length, take, drop, Option, Some, None, Bool, true, false, refl, sym, ap, subst, ◌∙◌, arith, length-append}
use Rattle.std.specs.Prelude.{if◌then◌else◌, ◌||◌, not, is_some, is_none, nat_lt, option_and_then, unwrap_or}
use Rattle.std.specs.Option.{option_map}
use Rattle.std.specs.List.{flat_map}
use Rattle.std.proofs.lemmas.Bool.{true≢false, ltb-true, ltb-false, le-ltb, ne_eqb}
use Rattle.std.proofs.lemmas.List.{take-append-drop}
use Rattle.apdu_core.specs.declared.header.Header.{Header}
use Rattle.apdu_core.specs.StatusWord.{StatusWord, ok, count, announces, corrects}
use Rattle.t0_core.specs.Plan.{IsCut}
use Rattle.t0_core.specs.Meaning.{Tpdu}
use Rattle.tlv_core.specs.Address.{NamesTag}
use Rattle.tlv_core.specs.Length.{shortest}
use Rattle.tlv_core.specs.Spelling.{object_bytes}
use Rattle.object_card.specs.Tables.{Entry, IsAid, entries_in, value_under}
use Rattle.object_card.specs.State.{CardState, Pending, NothingPending, ChainPending, ResponsePending, is_idle, waiting, pending_of, selected_entries, with_selected}
use Rattle.apdu_core.specs.Shared.{reply}
use Rattle.object_card.specs.OneStep.{Operation, Select, Get, Answers, selects, finds_no_application, none_selected, finds_no_object, gives, control_information, SameTables}
use Rattle.object_card.specs.Refusals.{is_select, is_get, is_get_response, refusal, breaks_chain, named_tag, to_send}
use Rattle.object_card.specs.CardMeaning.{Does, announcing}
use Rattle.object_card.specs.CarryingOut.{select_header, get_header, IsCarriedOut, Carries, FetchAll}
use Rattle.object_card.specs.TagLaws.{named}
use Rattle.object_card.specs.RefusalLaws.{refusal_drops_chain}
use Rattle.object_card.specs.StepLaws.{refused_step, select_step, select_refused, is_selected, is_missed, send_step, send_refused, is_sent}
use Rattle.object_card.specs.AnswerLaws.{same_entries, answers_alike}
use Rattle.object_card.specs.PutRunLaws.{all_have_moved}
use Rattle.object_card.specs.ResponseLaws.{announces_some, fetched, rest_waits, rest_is_idle}

-- the bytes that these TPDUs bring
abbrev all_brought : List Tpdu → List ℕ
all_brought ts = flat_map (λ t. t.received) ts

-- if nothing is announced, nothing is fetched
none_fetched : (old new : CardState) (status last : StatusWord) (fetches : List Tpdu)
    → announces status ≡ None → FetchAll old status fetches last new
    → (all_brought fetches ≡ []) × (last ≡ status) × (new ≡ old)
none_fetched old new status last [] none all = (refl, all.1, all.2)
none_fetched old new status last (t ∷ fetches) none
    (n, cut, mid, announced, header, counts, in_range, does, others) = let no : None ≡ Some n =
    sym none ∙ announced in absurd (cc)

announces_nothing : (cut : ℕ) (left : List ℕ) → announces (announcing left cut) ≡ None → left ≡ []
announces_nothing cut [] none = refl
announces_nothing cut (b ∷ left) none = absurd (cc)

-- all fetches together bring what waited
pub record IsBrought (left : List ℕ) (fetches : List Tpdu) (old new : CardState) (last : StatusWord)
    : Type 0 where
  pub whole : flat_map (λ t. t.received) fetches ≡ left
  pub last_is : last ≡ ok
  pub same : SameTables old new
  pub idle : is_idle new.pending ≡ true

pub all_is_fetched : (old new : CardState) (cut : ℕ) (status last : StatusWord) (left : List ℕ)
    (fetches : List Tpdu) → IsCut cut → waiting old.pending ≡ left
    → is_idle old.pending ≡ true → status ≡ announcing left cut
    → FetchAll old status fetches last new → IsBrought left fetches old new last
all_is_fetched old new cut status last left [] is waits idle told (none, last_is, stays) =
    let nothing : left ≡ [] = announces_nothing cut left (sym (ap announces told) ∙ none) in
    record {
      whole = sym nothing;
      last_is = last_is ∙ told ∙ ap (λ bs. announcing bs cut) nothing;
      same = (ap (λ s. s.applications) (sym stays), ap (λ s. s.selected) (sym stays));
      idle = ap (λ s. is_idle s.pending) stays ∙ idle;
    }
all_is_fetched old new cut status last left (t ∷ fetches) is waits idle told
    (n, next, mid, announced, header, counts, in_range, does, others) =
    let some = announces_some left cut n is (sym (ap announces told) ∙ announced) in
    let few : count t.p3 ≤ length (waiting old.pending) =
    omega (arith, counts, some.1, ap length waits) in
    let here = fetched old mid next t does header few in
    let rest : List ℕ = drop (count t.p3) left in
    let still : pending_of (drop (count t.p3) (waiting old.pending)) ≡ pending_of rest =
    ap (λ bs. pending_of (drop (count t.p3) bs)) waits in
    let mid_pending : mid.pending ≡ pending_of rest = here.left ∙ still in
    let after = all_is_fetched mid new next t.status last rest fetches in_range
    (ap waiting mid_pending ∙ rest_waits rest) (ap is_idle mid_pending ∙ rest_is_idle rest)
    (here.status_is ∙ ap (λ bs. announcing (drop (count t.p3) bs) next) waits) others in
    record {
      whole = ap (λ bs. bs ++ all_brought fetches)
          (here.brought ∙ ap (λ bs. take (count t.p3) bs) waits)
          ∙ ap (λ bs. take (count t.p3) left ++ bs) after.whole
          ∙ take-append-drop (count t.p3) left;
      last_is = after.last_is;
      same = (sym here.same_applications ∙ after.same.0, sym here.same_selected ∙ after.same.1);
      idle = after.idle;
    }

-- if no chain is pending, no header breaks one
unbroken : (pending : Pending) (h : Header) → is_idle pending ≡ true
    → breaks_chain pending h ≡ false
unbroken NothingPending h idle = refl
unbroken (ChainPending p1 p2 bytes) h idle = absurd (true≢false (sym idle))
unbroken (ResponsePending left) h idle = refl

-- an operation is carried out if it gets this reply
carried_out : (old after new : CardState) (operation : Operation) (status last : StatusWord)
    (content brought : List ℕ)
    → Answers old operation (record { status = status; content = content }) after → last ≡ status
    → brought ≡ content → SameTables after new → is_idle new.pending ≡ true
    → IsCarriedOut old operation last brought new
carried_out old after new operation status last content brought answers same_status same_content
    same idle =
    let here : Answers old operation (record { status = last; content = content }) after =
    subst (λ s. Answers old operation (record { status = s; content = content }) after)
    (sym same_status) answers in (
      after,
      subst (λ c. Answers old operation (record { status = last; content = c }) after)
          (sym same_content) here,
      same,
      idle,
    )

-- A card with the same tables carries it out in the same way.
pub carried_out_alike : (a b new : CardState) (operation : Operation) (status : StatusWord)
    (content : List ℕ) → SameTables a b
    → IsCarriedOut a operation status content new → IsCarriedOut b operation status content new
carried_out_alike a b new operation status content same (after, answers, tables, idle) =
    let (here, now, alike) =
    answers_alike a b after operation (record { status = status; content = content }) same
    answers in
    (here, now, (sym alike.0 ∙ tables.0, sym alike.1 ∙ tables.1), idle)

-- ---- SELECT

pub select_is_taken : (state : CardState) (aid : List ℕ) → is_idle state.pending ≡ true → IsAid aid
    → refusal state select_header (length aid) ≡ None
select_is_taken state aid idle is =
    rw (
      unbroken state.pending select_header idle,
      le-ltb (length aid) 5 is.0,
      le-ltb 16 (length aid) is.1,
    ) refl

-- A SELECT with all its fetches selects in one step.
pub select_is_carried_out : (old mid new : CardState) (cut : ℕ) (aid : List ℕ) (t : Tpdu)
    (fetches : List Tpdu) (last : StatusWord) → is_idle old.pending ≡ true → IsAid aid
    → IsCut cut → Carries select_header aid t → Does old cut t mid
    → FetchAll mid t.status fetches last new
    → IsCarriedOut old (Select aid) last (flat_map (λ t. t.received) (t ∷ fetches)) new
select_is_carried_out old mid new cut aid t fetches last idle is in_range carries does all =
    let taken : refusal old t.header t.p3 ≡ None =
    subst (λ p. refusal old t.header p ≡ None) (sym carries.counts)
    (subst (λ h. refusal old h (length aid) ≡ None) (sym carries.header_is)
    (select_is_taken old aid idle is)) in
    elim (select_step old mid cut t does (ap (λ h. is_select h) carries.header_is)) [
      | select_refused refused none_sent none new_is ↦ let no : None ≡ Some t.status =
          sym taken ∙ refused in absurd (cc)
      | is_selected e counts found none status new_is ↦
          let moved : aid ≡ t.sent =
          all_have_moved aid t.sent carries.takes.0 carries.takes.1
          (sym carries.counts ∙ counts) in
          let held : is_some (entries_in aid old.applications) ≡ true =
          ap (λ x. is_some (entries_in x old.applications)) moved ∙ found in
          let waits : waiting mid.pending ≡ control_information aid =
          ap (λ s. waiting s.pending) new_is ∙ ap (λ x. control_information x) (sym moved) in
          let told : t.status ≡ announcing (control_information aid) cut =
          status ∙ ap (λ x. announcing (control_information x) cut) (sym moved) in
          let brought = all_is_fetched mid new cut t.status last (control_information aid) fetches
          in_range waits (ap (λ s. is_idle s.pending) new_is) told all in
          carried_out old (with_selected old aid) new (Select aid) ok last (control_information aid)
          (all_brought (t ∷ fetches)) (selects aid held) brought.last_is
          (ap (λ bs. bs ++ all_brought fetches) none ∙ brought.whole) (
            sym (ap (λ s. s.applications) new_is) ∙ brought.same.0,
            ap (λ x. Some x) moved
                ∙ sym (ap (λ s. s.selected) new_is) ∙ brought.same.1,
          )
          brought.idle
      | is_missed e counts missed none status new_is ↦
          let moved : aid ≡ t.sent =
          all_have_moved aid t.sent carries.takes.0 carries.takes.1
          (sym carries.counts ∙ counts) in
          let absent : entries_in aid old.applications ≡ None =
          ap (λ x. entries_in x old.applications) moved ∙ missed in
          let (nothing, last_is, stays) =
          none_fetched mid new t.status last fetches (ap announces status) all in
          carried_out old old new (Select aid) (0x6A, 0x82) last [] (all_brought (t ∷ fetches))
          (finds_no_application aid absent) (last_is ∙ status)
          (ap (λ bs. bs ++ all_brought fetches) none ∙ nothing) (
            sym (ap (λ s. s.applications) new_is) ∙ sym (ap (λ s. s.applications) stays),
            sym (ap (λ s. s.selected) new_is) ∙ sym (ap (λ s. s.selected) stays),
          )
          (ap (λ s. is_idle s.pending) (stays ∙ new_is))
    ]

-- ---- GET DATA

-- the object with this tag, if there is one
abbrev object_of : Option (List ℕ) → Option (List Entry) → Option (List ℕ)
object_of tag entries =
    option_and_then (λ t. option_and_then (λ es. option_map (object_bytes t) (value_under t es))
    entries) tag

-- why an object is refused, as a status, if it is
abbrev refused_with : ℕ → Option (List ℕ) → Option StatusWord
refused_with p3 object =
    if is_none object then Some (0x6A, 0x88) else if nat_lt (length (unwrap_or object []))
    (count p3) then Some (0x6C, length (unwrap_or object [])) else None

abbrev first_of_get : Bool → ℕ → Option (List ℕ) → Option (List Entry) → Option StatusWord
first_of_get broken p3 tag entries =
    if broken then Some (0x68, 0x83) else if not (is_some tag) then Some (0x6A, 0x86)
    else if is_none entries then Some (0x69, 0x85)
    else refused_with p3 (object_of tag entries)

-- how a GET DATA for a tag is refused, or what it sends
data GetCase (state : CardState) (tag : List ℕ) (p3 : ℕ) : Option StatusWord → List ℕ → Type 0 where
  case_refused : (status : StatusWord) → Answers state (Get tag) (reply status) state
      → announces status ≡ None → corrects status ≡ None → GetCase state tag p3 (Some status) []
  case_short : (entries : List Entry) (value : List ℕ) → selected_entries state ≡ Some entries
      → value_under tag entries ≡ Some value
      → length (object_bytes tag value) < count p3
      → GetCase state tag p3 (Some (0x6C, length (object_bytes tag value)))
      (object_bytes tag value)
  case_given : (entries : List Entry) (value : List ℕ) → selected_entries state ≡ Some entries
      → value_under tag entries ≡ Some value
      → count p3 ≤ length (object_bytes tag value)
      → GetCase state tag p3 None (object_bytes tag value)

get_case : (state : CardState) (tag : List ℕ) (p1 p2 p3 : ℕ) → is_idle state.pending ≡ true
    → named_tag p1 p2 ≡ Some tag
    → GetCase state tag p3 (refusal state (get_header p1 p2) p3) (to_send state (get_header p1 p2))
get_case state tag p1 p2 p3 idle is_named =
    let here : GetCase state tag p3 (first_of_get false p3 (Some tag) (selected_entries state))
    (unwrap_or (object_of (Some tag) (selected_entries state)) []) =
    chosen (selected_entries state) refl in
    let by_tag : GetCase state tag p3
    (first_of_get false p3 (named_tag p1 p2) (selected_entries state))
    (unwrap_or (object_of (named_tag p1 p2) (selected_entries state)) []) =
    subst (λ x. GetCase state tag p3 (first_of_get false p3 x (selected_entries state))
    (unwrap_or (object_of x (selected_entries state)) [])) (sym is_named) here in
    subst (λ b. GetCase state tag p3 (first_of_get b p3 (named_tag p1 p2) (selected_entries state))
    (unwrap_or (object_of (named_tag p1 p2) (selected_entries state)) []))
    (sym (unbroken state.pending (get_header p1 p2) idle)) by_tag
  where
    Found : Option (List ℕ) → Type 0
    Found value = GetCase state tag p3 (refused_with p3 (option_map (object_bytes tag) value))
        (unwrap_or (option_map (object_bytes tag) value) [])

    chosen : (es : Option (List Entry)) → selected_entries state ≡ es
        → GetCase state tag p3 (first_of_get false p3 (Some tag) es)
        (unwrap_or (object_of (Some tag) es) [])
    chosen None e = case_refused (0x69, 0x85) (none_selected (Get tag) refl e) refl refl
    chosen (Some entries) e = valued (value_under tag entries) refl
      where
        valued : (v : Option (List ℕ)) → value_under tag entries ≡ v
            → GetCase state tag p3 (first_of_get false p3 (Some tag) (Some entries))
            (unwrap_or (object_of (Some tag) (Some entries)) [])
        valued None k = subst Found (sym k)
            (case_refused (0x6A, 0x88) (finds_no_object tag entries e k) refl refl)
        valued (Some value) k =
            subst Found (sym k) (sized (nat_lt (length (object_bytes tag value)) (count p3)) refl)
          where
            sized : (b : Bool) → nat_lt (length (object_bytes tag value)) (count p3) ≡ b
                → Found (Some value)
            sized true l = subst
                (λ b. GetCase state tag p3
                (if b then Some (0x6C, length (object_bytes tag value)) else None)
                (object_bytes tag value)) (sym l)
                (case_short entries value e k
                (ltb-true (length (object_bytes tag value)) (count p3) l))
            sized false l = subst
                (λ b. GetCase state tag p3
                (if b then Some (0x6C, length (object_bytes tag value)) else None)
                (object_bytes tag value)) (sym l)
                (case_given entries value e k
                (ltb-false (length (object_bytes tag value)) (count p3) l))

-- the value under a tag of the selected application
pub record IsHeld (state : CardState) (tag value : List ℕ) : Type 0 where
  pub entries : List Entry
  pub is_selected : selected_entries state ≡ Some entries
  pub is_under : value_under tag entries ≡ Some value

pub one_held : (a b : CardState) (tag u v : List ℕ) → SameTables a b → IsHeld a tag u
    → IsHeld b tag v → u ≡ v
one_held a b tag u v same first second =
    let both : Some first.entries ≡ Some second.entries =
    sym first.is_selected ∙ same_entries a b same ∙ second.is_selected in
    let entries : first.entries ≡ second.entries = cc in
    let values : Some u ≡ Some v = sym first.is_under ∙ ap (λ es. value_under tag es) entries
    ∙ second.is_under in cc

pub some_bytes : (tag value : List ℕ) → 1 ≤ length (object_bytes tag value)
some_bytes tag value =
    omega (
      arith,
      length-append (tag ++ shortest (length value)) value,
      length-append tag (shortest (length value)),
      some_length (length value),
    )
  where
    some_length : (n : ℕ) → 1 ≤ length (shortest n)
    some_length n = split (nat_lt n 0x80) (nat_lt n 0x100)
      where
        split : (v w : Bool)
            → 1 ≤ length (if v then n ∷ [] else if w then 0x81 ∷ n ∷ [] else 0x82 ∷ n / 256
            ∷ n % 256 ∷ [])
        split true w = omega arith
        split false true = omega arith
        split false false = omega arith

-- a number other than 0 is its own count
pub count_of_some : (n : ℕ) → 1 ≤ n → count n ≡ n
count_of_some n some = rw (ne_eqb n 0 (λ e. omega (arith, e, some))) refl

-- a status that announces what is left is not 6CXX
pub no_correction : (left : List ℕ) (cut : ℕ) → corrects (announcing left cut) ≡ None
no_correction [] cut = refl
no_correction (b ∷ left) cut = refl

-- a TPDU with a refused header
record Stops (old : CardState) (t : Tpdu) (new : CardState) (status : StatusWord) : Type 0 where
  status_is : t.status ≡ status
  none_received : t.received ≡ []
  same : SameTables old new
  idle : is_idle new.pending ≡ true

stops : (old new : CardState) (cut : ℕ) (t : Tpdu) (status : StatusWord) → Does old cut t new
    → refusal old t.header t.p3 ≡ Some status → Stops old t new status
stops old new cut t status does refused =
    let step = refused_step old new cut t status does refused in
    record {
      status_is = step.status_is;
      none_received = step.none_received;
      same = (sym (ap (λ s. s.applications) step.new_is), sym (ap (λ s. s.selected) step.new_is));
      idle = ap (λ s. is_idle s.pending) step.new_is
          ∙ refusal_drops_chain t.header status old.pending;
    }

-- how a GET DATA ends, or continues
pub data GetStep (old : CardState) (tag : List ℕ) (cut : ℕ) (t : Tpdu) (new : CardState)
    : Type 0 where
  get_refused : Answers old (Get tag) (reply t.status) old → announces t.status ≡ None
      → corrects t.status ≡ None → t.received ≡ [] → SameTables old new → is_idle new.pending ≡ true
      → GetStep old tag cut t new
  get_corrected : (value : List ℕ) → IsHeld old tag value
      → length (object_bytes tag value) < count t.p3
      → corrects t.status ≡ Some (length (object_bytes tag value))
      → t.received ≡ [] → SameTables old new → is_idle new.pending ≡ true
      → GetStep old tag cut t new
  get_given : (value : List ℕ) → IsHeld old tag value
      → t.received ≡ take (count t.p3) (object_bytes tag value)
      → t.status ≡ announcing (drop (count t.p3) (object_bytes tag value)) cut → SameTables old new
      → new.pending ≡ pending_of (drop (count t.p3) (object_bytes tag value))
      → GetStep old tag cut t new

pub get_step : (old new : CardState) (tag : List ℕ) (p1 p2 cut : ℕ) (t : Tpdu)
    → is_idle old.pending ≡ true → NamesTag tag p1 p2 → t.header ≡ get_header p1 p2
    → Does old cut t new → GetStep old tag cut t new
get_step old new tag p1 p2 cut t idle is header does =
    each (refusal old t.header t.p3) (to_send old t.header) refl refl
    (subst (λ h. GetCase old tag t.p3 (refusal old h t.p3) (to_send old h)) (sym header)
    (get_case old tag p1 p2 t.p3 idle (named tag p1 p2 is)))
  where
    each : (r : Option StatusWord) (whole : List ℕ) → refusal old t.header t.p3 ≡ r
        → to_send old t.header ≡ whole → GetCase old tag t.p3 r whole → GetStep old tag cut t new
    each r whole e w (case_refused status answers no_more uncorrected) =
        let s = stops old new cut t status does e in
        get_refused (subst (λ s. Answers old (Get tag) (reply s) old) (sym s.status_is) answers)
        (ap announces s.status_is ∙ no_more) (ap corrects s.status_is ∙ uncorrected)
        s.none_received s.same s.idle
    each r whole e w (case_short entries value selected held short) =
        let n = length (object_bytes tag value) in
        let s = stops old new cut t (0x6C, n) does e in
        get_corrected value (record { entries = entries; is_selected = selected; is_under = held })
        short (ap corrects s.status_is ∙ ap (λ n. Some n) (count_of_some n (some_bytes tag value)))
        s.none_received s.same s.idle
    each r whole e w (case_given entries value selected held few) =
        elim (send_step old new cut t does (ap (λ h. is_get h || is_get_response h) header)) [
          | send_refused refused nothing new_is ↦ let no : Some t.status ≡ None =
              sym refused ∙ e in absurd (cc)
          | is_sent taken brought status new_is ↦
              get_given value
              (record { entries = entries; is_selected = selected; is_under = held })
              (brought ∙ ap (λ bs. take (count t.p3) bs) w)
              (status ∙ ap (λ bs. announcing (drop (count t.p3) bs) cut) w)
              (sym (ap (λ s. s.applications) new_is), sym (ap (λ s. s.selected) new_is))
              (ap (λ s. s.pending) new_is ∙ ap (λ bs. pending_of (drop (count t.p3) bs)) w)
        ]

-- A GET DATA with all its fetches gets the object in one step.
pub get_is_carried_out : (old mid new : CardState) (tag : List ℕ) (p1 p2 cut : ℕ) (t : Tpdu)
    (fetches : List Tpdu) (last : StatusWord) → is_idle old.pending ≡ true
    → NamesTag tag p1 p2 → t.header ≡ get_header p1 p2 → IsCut cut → Does old cut t mid
    → corrects t.status ≡ None → FetchAll mid t.status fetches last new
    → IsCarriedOut old (Get tag) last (flat_map (λ t. t.received) (t ∷ fetches)) new
get_is_carried_out old mid new tag p1 p2 cut t fetches last idle is header in_range does uncorrected
    all = elim (get_step old mid tag p1 p2 cut t idle is header does) [
      | get_refused answers none told nothing same at_rest ↦
          let (empty, last_is, stays) = none_fetched mid new t.status last fetches none all in
          carried_out old old new (Get tag) t.status last [] (all_brought (t ∷ fetches)) answers
          last_is (ap (λ bs. bs ++ all_brought fetches) nothing ∙ empty)
          (same.0 ∙ sym (ap (λ s. s.applications) stays), same.1 ∙ sym (ap (λ s. s.selected) stays))
          (ap (λ s. is_idle s.pending) stays ∙ at_rest)
      | get_corrected value held short corrected nothing same at_rest ↦
          let no : None ≡ Some (length (object_bytes tag value)) = sym uncorrected ∙ corrected in
          absurd (cc)
      | get_given value held brought status same pending ↦
          let whole : List ℕ = object_bytes tag value in
          let rest : List ℕ = drop (count t.p3) whole in
          let more = all_is_fetched mid new cut t.status last rest fetches in_range
          (ap waiting pending ∙ rest_waits rest) (ap is_idle pending ∙ rest_is_idle rest) status
          all in
          carried_out old old new (Get tag) ok last whole (all_brought (t ∷ fetches))
          (gives tag value held.entries held.is_selected held.is_under) more.last_is
          (ap (λ bs. bs ++ all_brought fetches) brought
          ∙ ap (λ bs. take (count t.p3) whole ++ bs) more.whole
          ∙ take-append-drop (count t.p3) whole)
          (same.0 ∙ more.same.0, same.1 ∙ more.same.1) more.idle
    ]

-- A GET DATA that is repeated with the length of a 6CXX, with all its fetches, gets the object in
-- one step.
pub get_again_is_carried_out : (old next mid new : CardState) (tag : List ℕ)
    (p1 p2 before cut n : ℕ) (t u : Tpdu) (fetches : List Tpdu) (last : StatusWord)
    → is_idle old.pending ≡ true → NamesTag tag p1 p2 → t.header ≡ get_header p1 p2
    → Does old before t next → corrects t.status ≡ Some n
    → u.header ≡ get_header p1 p2 → count u.p3 ≡ n → IsCut cut → Does next cut u mid
    → FetchAll mid u.status fetches last new
    → IsCarriedOut old (Get tag) last (flat_map (λ t. t.received) (t ∷ u ∷ fetches)) new
get_again_is_carried_out old next mid new tag p1 p2 before cut n t u fetches last idle is header
    does corrected again counts in_range does_again all =
    elim (get_step old next tag p1 p2 before t idle is header does) [
      | get_refused answers none told nothing same at_rest ↦ let no : None ≡ Some n =
          sym told ∙ corrected in absurd (cc)
      | get_given value held brought status same pending ↦
          let no : None ≡ Some n =
          sym (no_correction (drop (count t.p3) (object_bytes tag value)) before)
          ∙ sym (ap corrects status) ∙ corrected in absurd (cc)
      | get_corrected value held short told nothing same at_rest ↦
          let counted : Some n ≡ Some (length (object_bytes tag value)) = sym corrected ∙ told in
          let all_of_it : n ≡ length (object_bytes tag value) = cc in
          let fine : corrects u.status ≡ None =
          elim (get_step next mid tag p1 p2 cut u at_rest is again does_again) [
            | get_refused answers none untold nothing_here same_here rests ↦ untold
            | get_corrected other held_here short_here told_here nothing_here same_here rests ↦
                let one : value ≡ other = one_held old next tag value other same held held_here in
                absurd (omega (
                  arith,
                  short_here,
                  counts,
                  all_of_it,
                  ap (λ v. length (object_bytes tag v)) one,
                ))
            | get_given other held_here brought status same_here pending ↦
                ap corrects status ∙ no_correction (drop (count u.p3) (object_bytes tag other)) cut
          ] in
          let later = get_is_carried_out next mid new tag p1 p2 cut u fetches last at_rest is again
          in_range does_again fine all in
          let at_old : IsCarriedOut old (Get tag) last (all_brought (u ∷ fetches)) new =
          carried_out_alike next old new (Get tag) last (all_brought (u ∷ fetches))
          (sym same.0, sym same.1) later in
          subst (λ bs. IsCarriedOut old (Get tag) last (bs ++ all_brought (u ∷ fetches)) new)
          (sym nothing) at_old
    ]
