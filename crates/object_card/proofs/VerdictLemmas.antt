-- What a verdict on a header prepares, and what a header that is not refused sends.
use Rattle.std.proofs.Common.{◌≡◌, ◌≢◌, ◌∙◌, ℕ, zero, suc, ◌≤◌, List, [], length, Option, Some, None, Bool, true, false, inl, inr, refl, sym, ap, subst, arith}
use Rattle.std.specs.Prelude.{unwrap_or, option_map, IfSome, IsSome, if◌then◌else◌, ◌==◌, ◌&&◌, ◌||◌, nat_lt}
use Rattle.std.proofs.lemmas.Bool.{true≢false, ltb-false, not-false}
use Rattle.std.proofs.lemmas.Bool.Decides.{eqb_tells}
use Rattle.apdu_core.specs.declared.header.Header.{Header}
use Rattle.apdu_core.specs.Chaining.{ChainState, idle}
use Rattle.apdu_core.specs.StatusWord.{StatusWord, count}
use Rattle.apdu_core.specs.HeaderBytes.{ins_is_valid}
use Rattle.t0_core.specs.Meaning.{Ask, refused}
use Rattle.object_card.specs.Tables.{Entry}
use Rattle.object_card.specs.State.{CardState, IsCardState, NothingPending, ResponsePending, with_pending}
use Rattle.object_card.specs.declared.instructions.Instruction.{Instruction}
use Rattle.object_card.specs.declared.instructions.Instruction.TheVariants.{Select, GetData, PutData, GetResponse}
use Rattle.object_card.specs.Instructions.{ins_of, instruction_of, takes_data}
use Rattle.object_card.proofs.InstructionLemmas.{ins_is, known_some}
use Rattle.object_card.specs.Refusals.{refusal, UnknownInstruction, MoreThanIsLeft, is_get, is_get_response, to_send}
use Rattle.object_card.specs.CardMeaning.{Does, refuses, after_refusal}
use Rattle.object_card.specs.declared.response.Response.{Response}
use Rattle.object_card.specs.CardFields.{ApplicationView, IsResponse, entries_at, left_of, pending_in, chain_pending, state_of}
use Rattle.object_card.specs.CardView.{IsStanding}
use Rattle.object_card.specs.StateLaws.{none_holds}

abbrev pub kept_after : Header → StatusWord → Option Response → Option Response
kept_after h status response = if is_get_response h && (status.0 == 0x6C) then response else None

pending_after : (entries : List Entry) (chain : ChainState) (response : Option Response)
    (h : Header) (status : StatusWord) (n : ℕ)
    → after_refusal h status (pending_in entries chain response)
    ≡ pending_in entries (idle n) (kept_after h status response)
pending_after entries chain None h status n =
    split chain.pending (is_get_response h && (status.0 == 0x6C))
  where
    split : (v : Option Header) (b : Bool) → after_refusal h status (chain_pending v chain.bytes)
        ≡ pending_in entries (idle n) (if b then None else None)
    split None true = refl
    split None false = refl
    split (Some first) true = refl
    split (Some first) false = refl
pending_after entries chain (Some r) h status n = split (is_get_response h && (status.0 == 0x6C))
  where
    split : (b : Bool) → (if b then ResponsePending (left_of entries r) else NothingPending)
        ≡ pending_in entries (idle n) (if b then Some r else None)
    split true = refl
    split false = refl

-- what a refusal leaves
pub refused_next : (held : List ApplicationView) (selected : Option ℕ) (chain : ChainState)
    (response : Option Response) (h : Header) (status : StatusWord)
    → with_pending (state_of held selected chain response)
    (after_refusal h status (state_of held selected chain response).pending)
    ≡ state_of held selected (idle chain.limit) (kept_after h status response)
refused_next held selected chain response h status =
    ap (λ p. with_pending (state_of held selected chain response) p)
    (pending_after (entries_at held selected) chain response h status chain.limit)

pub refused_does : (held : List ApplicationView) (selected : Option ℕ) (chain : ChainState)
    (response next : Option Response) (ask : Ask) (status : StatusWord)
    → refusal (state_of held selected chain response) ask.header ask.p3 ≡ Some status → next
    ≡ kept_after ask.header status response
    → Does (state_of held selected chain response) ask.cut (refused ask status)
    (state_of held selected (idle chain.limit) next)
refused_does held selected chain response next ask status is leaves =
    let Leads : CardState → Type 0 = λ new. Does (state_of held selected chain response) ask.cut
    (refused ask status) new in
    subst Leads (refused_next held selected chain response ask.header status
    ∙ ap (λ r. state_of held selected (idle chain.limit) r) (sym leaves))
    (refuses ask.header ask.p3 status is)

-- a next state without a chain is in effect
pub leaves_standing : (held : List ApplicationView) (selected : Option ℕ) (chain : ChainState)
    (response next : Option Response)
    → IsStanding held selected chain response → IfSome next (IsResponse (entries_at held selected))
    → IsCardState (state_of held selected (idle chain.limit) next)
    → IsStanding held selected (idle chain.limit) next
leaves_standing held selected chain response next standing fits sound = record {
  sound = sound;
  selected_is = standing.selected_is;
  limit_is = standing.limit_is;
  of_puts = tt;
  response_is = fits;
  alone = λ some. refl;
}

-- a header that is not refused has an instruction
pub instruction_known : (s : CardState) (h : Header) (p3 : ℕ) → refusal s h p3 ≡ None
    → IsSome (instruction_of h.ins)
instruction_known s h p3 none =
    known_some h.ins (not-false _ (none_holds s h p3 UnknownInstruction none))

pub sends_where : (h : Header) (i : Instruction) → instruction_of h.ins ≡ Some i
    → takes_data i ≡ false → (is_get h || is_get_response h) ≡ true
sends_where h Select is gives = absurd (true≢false gives)
sends_where h GetData is gives =
    ap (λ n. (n == 0xCA) || (n == 0xC0)) (ins_is h.ins GetData is)
sends_where h PutData is gives = absurd (true≢false gives)
sends_where h GetResponse is gives =
    ap (λ n. (n == 0xCA) || (n == 0xC0)) (ins_is h.ins GetResponse is)

pub enough_left : (s : CardState) (h : Header) (p3 : ℕ) → refusal s h p3 ≡ None
    → (is_get h || is_get_response h) ≡ true → count p3 ≤ length (to_send s h)
enough_left s h p3 none sending =
    ltb-false (length (to_send s h)) (count p3)
    (subst (λ b. (b && nat_lt (length (to_send s h)) (count p3)) ≡ false) sending
    (none_holds s h p3 MoreThanIsLeft none))

pub count_some : (p3 : ℕ) → 1 ≤ count p3
count_some p3 = elim (eqb_tells p3 0) [
  | inl zero_it ↦ rw zero_it.0 (omega arith)
  | inr some ↦ rw some.0 (omega (arith, (let other : p3 ≢ 0 = some.1 in positive p3 other)))
]
  where
    positive : (n : ℕ) → n ≢ 0 → 1 ≤ n
    positive zero other = absurd (other refl)
    positive (suc n) other = omega arith

pub some_to_send : (f : Response → List ℕ) (r : Option Response) (xs : List ℕ) (n : ℕ)
    → unwrap_or (option_map f r) [] ≡ xs → n ≤ length xs → 1 ≤ n → IsSome r
some_to_send f (Some r) xs n is fits some = refl
some_to_send f None xs n is fits some = absurd (omega (arith, ap length is, fits, some))

pub to_send_is : (f : Response → List ℕ) (r : Option Response) (x : Response) (xs : List ℕ) → r
    ≡ Some x → unwrap_or (option_map f r) [] ≡ xs → f x ≡ xs
to_send_is f r x xs is whole = sym (ap (λ o. unwrap_or (option_map f o) []) is) ∙ whole

each_is_valid : (i : Instruction) → ins_is_valid (ins_of i) ≡ true
each_is_valid Select = refl
each_is_valid GetData = refl
each_is_valid PutData = refl
each_is_valid GetResponse = refl

pub is_valid : (n : ℕ) (i : Instruction) → instruction_of n ≡ Some i → ins_is_valid n ≡ false → ⊥
is_valid n i is invalid =
    true≢false (sym (each_is_valid i) ∙ ap ins_is_valid (sym (ins_is n i is)) ∙ invalid)
