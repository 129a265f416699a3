-- The reasons to refuse a header, instruction by instruction.
use Rattle.std.proofs.Common.{◌≡◌, ◌∙◌, ℕ, ◌+◌, ◌<◌, ◌≤◌, List, [], ◌∷◌, ◌++◌, length, Option, Some, None, Bool, true, false, refl, sym, ap, subst}
use Rattle.std.specs.Prelude.{IsSome, option_map, option_and_then, is_none, if◌then◌else◌, nat_lt, ◌==◌, ◌&&◌, not, bit_and, IfSome}
use Rattle.std.proofs.lemmas.Bool.{lt-ltb, le-ltb, not-false, and_parts, eqb-true}
use Rattle.apdu_core.specs.declared.header.Header.{Header}
use Rattle.apdu_core.specs.StatusWord.{StatusWord}
use Rattle.apdu_core.specs.Chaining.{ChainState, as_last}
use Rattle.tlv_core.specs.Spelling.{object_bytes}
use Rattle.object_card.specs.declared.limits.TheConstants.{VALUE_LIMIT}
use Rattle.object_card.specs.Instructions.{instruction_of}
use Rattle.object_card.proofs.InstructionLemmas.{known_some}
use Rattle.object_card.specs.Tables.{Entry, value_under, is_locked}
use Rattle.object_card.specs.State.{CardState, ChainPending, chained, selected_entries}
use Rattle.object_card.specs.Refusals.{Reason, first_of_them, holds, status_for, is_locked_among, named_tag, object_asked, parameters_fit, refusal, breaks_chain, is_put}
use Rattle.object_card.specs.declared.response.Response.{Response}
use Rattle.object_card.specs.CardFields.{chain_pending, pending_in}
use Rattle.object_card.specs.HeaderReasons.{of_form, of_state}
use Rattle.object_card.proofs.SameTag.{same_as_itself}
use Rattle.object_card.specs.StateLaws.{none_of_them}

pub put_reasons : (s : CardState) (h : Header) (p3 : ℕ) → h.ins ≡ 0xDA
    → first_of_them s h p3 of_state
    ≡ (if is_none (selected_entries s) then Some (0x69, 0x85)
    else if is_locked_among (named_tag h.p1 h.p2) (selected_entries s) then Some (0x69, 0x82)
    else if nat_lt VALUE_LIMIT (length (chained s.pending) + p3) then Some (0x67, 0x00) else None)
put_reasons s h p3 ins = rw ins refl

-- the first of some reasons, or else of others
abbrev pub first_else : Option StatusWord → Option StatusWord → Option StatusWord
first_else None others = others
first_else (Some status) others = Some status

first-append : (s : CardState) (h : Header) (p3 : ℕ) (xs ys : List Reason)
    → first_of_them s h p3 (xs ++ ys) ≡ first_else (first_of_them s h p3 xs)
    (first_of_them s h p3 ys)
first-append s h p3 [] ys = refl
first-append s h p3 (x ∷ xs) ys = split (holds s h p3 x) (first-append s h p3 xs ys)
  where
    split : (v : Bool) → first_of_them s h p3 (xs ++ ys)
        ≡ first_else (first_of_them s h p3 xs) (first_of_them s h p3 ys)
        → (if v then Some (status_for s h x) else first_of_them s h p3 (xs ++ ys))
        ≡ first_else (if v then Some (status_for s h x) else first_of_them s h p3 xs)
        (first_of_them s h p3 ys)
    split true e = refl
    split false e = e

-- first the chain, then the header's form, then the card's state
pub in_turn : (s : CardState) (h : Header) (p3 : ℕ)
    → refusal s h p3 ≡ (if breaks_chain s.pending h then Some (0x68, 0x83) else first_else
    (first_of_them s h p3 of_form) (first_of_them s h p3 of_state))
in_turn s h p3 = split (breaks_chain s.pending h)
  where
    split : (v : Bool)
        → (if v then Some (0x68, 0x83) else first_of_them s h p3 (of_form ++ of_state))
        ≡ (if v then Some (0x68, 0x83) else first_else (first_of_them s h p3 of_form)
        (first_of_them s h p3 of_state))
    split true = refl
    split false = first-append s h p3 of_form of_state

-- a PUT DATA for this tag, if these entries are selected
pub put_known : (s : CardState) (h : Header) (p3 : ℕ) (entries : List Entry) (tag : List ℕ) → h.ins
    ≡ 0xDA
    → selected_entries s ≡ Some entries → named_tag h.p1 h.p2 ≡ Some tag
    → first_of_them s h p3 of_state
    ≡ (if is_locked tag entries then Some (0x69, 0x82)
    else if nat_lt VALUE_LIMIT (length (chained s.pending) + p3) then Some (0x67, 0x00) else None)
put_known s h p3 entries tag ins selected named =
    let Answer : Option (List Entry) → Option (List ℕ) → Option StatusWord = λ es t.
    (if is_none es then Some (0x69, 0x85) else if is_locked_among t es then Some (0x69, 0x82)
    else if nat_lt VALUE_LIMIT (length (chained s.pending) + p3) then Some
    (0x67, 0x00) else None) in
    put_reasons s h p3 ins ∙ ap (λ es. Answer es (named_tag h.p1 h.p2)) selected
    ∙ ap (λ t. Answer (Some entries) t) named

pub put_locked : (s : CardState) (h : Header) (p3 : ℕ) (entries : List Entry) (tag : List ℕ) → h.ins
    ≡ 0xDA
    → selected_entries s ≡ Some entries → named_tag h.p1 h.p2 ≡ Some tag → is_locked tag entries
    ≡ true
    → first_of_them s h p3 of_state ≡ Some (0x69, 0x82)
put_locked s h p3 entries tag ins selected named locked =
    put_known s h p3 entries tag ins selected named ∙ rw locked refl

pub put_long : (s : CardState) (h : Header) (p3 n : ℕ) (entries : List Entry) (tag : List ℕ) → h.ins
    ≡ 0xDA
    → selected_entries s ≡ Some entries → named_tag h.p1 h.p2 ≡ Some tag → is_locked tag entries
    ≡ false
    → length (chained s.pending) ≡ n → VALUE_LIMIT < n + p3 → first_of_them s h p3 of_state
    ≡ Some (0x67, 0x00)
put_long s h p3 n entries tag ins selected named free is long =
    put_known s h p3 entries tag ins selected named
    ∙ rw (free, is, lt-ltb VALUE_LIMIT (n + p3) long) refl

pub put_fits : (s : CardState) (h : Header) (p3 n : ℕ) (entries : List Entry) (tag : List ℕ) → h.ins
    ≡ 0xDA
    → selected_entries s ≡ Some entries → named_tag h.p1 h.p2 ≡ Some tag → is_locked tag entries
    ≡ false
    → length (chained s.pending) ≡ n → n + p3 ≤ VALUE_LIMIT → first_of_them s h p3 of_state ≡ None
put_fits s h p3 n entries tag ins selected named free is fits =
    put_known s h p3 entries tag ins selected named
    ∙ rw (free, is, le-ltb VALUE_LIMIT (n + p3) fits) refl

-- the object under this tag, if these entries are selected
pub asked_known : (s : CardState) (h : Header) (entries : List Entry) (tag : List ℕ)
    → selected_entries s ≡ Some entries
    → named_tag h.p1 h.p2 ≡ Some tag → object_asked s h
    ≡ option_map (object_bytes tag) (value_under tag entries)
asked_known s h entries tag selected named =
    let Asked : Option (List Entry) → Option (List ℕ) → Option (List ℕ) = λ es t.
    option_and_then
    (λ tag. option_and_then (λ entries. option_map (object_bytes tag) (value_under tag entries))
    es) t in
    ap (λ t. Asked (selected_entries s) t) named ∙ ap (λ es. Asked es (Some tag)) selected

pub turn_form : (s : CardState) (h : Header) (p3 : ℕ) (status : StatusWord)
    → breaks_chain s.pending h ≡ false
    → first_of_them s h p3 of_form ≡ Some status → refusal s h p3 ≡ Some status
turn_form s h p3 status goes_on form =
    let Turn : Bool → Option StatusWord → Option StatusWord =
    λ b o. (if b then Some (0x68, 0x83) else first_else o (first_of_them s h p3 of_state)) in
    in_turn s h p3 ∙ ap (λ b. Turn b (first_of_them s h p3 of_form)) goes_on ∙ ap (Turn false) form

pub turn_state : (s : CardState) (h : Header) (p3 : ℕ) → breaks_chain s.pending h ≡ false
    → first_of_them s h p3 of_form ≡ None → refusal s h p3 ≡ first_of_them s h p3 of_state
turn_state s h p3 goes_on form =
    let Turn : Bool → Option StatusWord → Option StatusWord =
    λ b o. (if b then Some (0x68, 0x83) else first_else o (first_of_them s h p3 of_state)) in
    in_turn s h p3 ∙ ap (λ b. Turn b (first_of_them s h p3 of_form)) goes_on ∙ ap (Turn false) form

-- a command that continues the chain does not break it
pub goes_on_with : (entries : List Entry) (chain : ChainState) (response : Option Response)
    (h : Header)
    → IfSome chain.pending (λ first. as_last h ≡ first)
    → IfSome chain.pending (λ first. (first.cla ≡ 0x00) × (first.ins ≡ 0xDA))
    → breaks_chain (pending_in entries chain response) h ≡ false
goes_on_with entries chain (Some r) h same of_puts = refl
goes_on_with entries chain None h same of_puts = split chain.pending same of_puts
  where
    split : (v : Option Header) → IfSome v (λ first. as_last h ≡ first)
        → IfSome v (λ first. (first.cla ≡ 0x00) × (first.ins ≡ 0xDA))
        → breaks_chain (chain_pending v chain.bytes) h ≡ false
    split None same of_puts = refl
    split (Some first) same of_puts =
        let class : bit_and h.cla 0xEF ≡ 0x00 = ap (λ x. x.cla) same ∙ of_puts.0 in
        let instruction : h.ins ≡ 0xDA = ap (λ x. x.ins) same ∙ of_puts.1 in
        let P : Header → Type 0 =
        λ x. not ((bit_and h.cla 0xEF == 0x00) && (h.ins == 0xDA) && (h.p1 == x.p1)
        && (h.p2 == x.p2)) ≡ false in
        subst P same (rw (class, instruction, same_as_itself h.p1, same_as_itself h.p2) refl)

-- A header that does not break a chain belongs to it.
pub is_of_its_chain : (p1 p2 : ℕ) (bytes : List ℕ) (h : Header)
    → breaks_chain (ChainPending p1 p2 bytes) h ≡ false
    → (bit_and h.cla 0xEF ≡ 0x00) × (h.ins ≡ 0xDA) × (h.p1 ≡ p1) × (h.p2 ≡ p2)
is_of_its_chain p1 p2 bytes h goes_on =
    let all = not-false ((bit_and h.cla 0xEF == 0x00) && is_put h && (h.p1 == p1) && (h.p2 == p2))
    goes_on in
    let (three, second) = and_parts ((bit_and h.cla 0xEF == 0x00) && is_put h && (h.p1 == p1))
    (h.p2 == p2) all in
    let (two, first) = and_parts ((bit_and h.cla 0xEF == 0x00) && is_put h) (h.p1 == p1) three in
    let (class, ins) = and_parts (bit_and h.cla 0xEF == 0x00) (is_put h) two in (
      eqb-true (bit_and h.cla 0xEF) 0x00 class,
      eqb-true h.ins 0xDA ins,
      eqb-true h.p1 p1 first,
      eqb-true h.p2 p2 second,
    )

-- a command that does not break the chain continues it
pub accepts : (entries : List Entry) (chain : ChainState) (response : Option Response) (h : Header)
    → (IsSome response → chain.pending ≡ None)
    → IfSome chain.pending (λ first. (first.cla ≡ 0x00) × (first.ins ≡ 0xDA))
    → breaks_chain (pending_in entries chain response) h ≡ false
    → IfSome chain.pending (λ first. as_last h ≡ first)
accepts entries chain (Some r) h alone of_puts goes_on =
    subst (λ v. IfSome v (λ first. as_last h ≡ first)) (sym (alone refl)) tt
accepts entries chain None h alone of_puts goes_on = split chain.pending of_puts goes_on
  where
    split : (v : Option Header) → IfSome v (λ first. (first.cla ≡ 0x00) × (first.ins ≡ 0xDA))
        → breaks_chain (chain_pending v chain.bytes) h ≡ false
        → IfSome v (λ first. as_last h ≡ first)
    split None of_puts goes_on = tt
    split (Some first) of_puts goes_on =
        let own = is_of_its_chain first.p1 first.p2 chain.bytes h goes_on in
        let a : bit_and h.cla 0xEF ≡ first.cla = own.0 ∙ sym of_puts.0 in
        let b : h.ins ≡ first.ins = own.1 ∙ sym of_puts.1 in
        λ i. record { cla = a i; ins = b i; p1 = own.2 i; p2 = own.3 i }

pub breaks_with : (entries : List Entry) (chain : ChainState) (response : Option Response)
    (h : Header)
    → (IfSome chain.pending (λ first. as_last h ≡ first) → ⊥)
    → (IsSome response → chain.pending ≡ None)
    → IfSome chain.pending (λ first. (first.cla ≡ 0x00) × (first.ins ≡ 0xDA))
    → breaks_chain (pending_in entries chain response) h ≡ true
breaks_with entries chain response h other alone of_puts =
    split (breaks_chain (pending_in entries chain response) h) refl
  where
    split : (v : Bool) → breaks_chain (pending_in entries chain response) h ≡ v → v ≡ true
    split true e = refl
    split false e = absurd (other (accepts entries chain response h alone of_puts e))

pub turn_chain : (s : CardState) (h : Header) (p3 : ℕ) → breaks_chain s.pending h ≡ true
    → refusal s h p3 ≡ Some (0x68, 0x83)
turn_chain s h p3 breaks =
    let Turn : Bool → Option StatusWord =
    λ b. (if b then Some (0x68, 0x83) else first_else (first_of_them s h p3 of_form)
    (first_of_them s h p3 of_state)) in
    in_turn s h p3 ∙ ap Turn breaks

-- the parameters are right if the form is
pub form_fits : (s : CardState) (h : Header) (p3 : ℕ) → first_of_them s h p3 of_form ≡ None
    → parameters_fit h ≡ true
form_fits s h p3 none = not-false _ (none_of_them s h p3 of_form none).1.1.1.0

-- so is the instruction
pub form_known : (s : CardState) (h : Header) (p3 : ℕ) → first_of_them s h p3 of_form ≡ None
    → IsSome (instruction_of h.ins)
form_known s h p3 none = known_some h.ins (not-false _ (none_of_them s h p3 of_form none).1.0)
