-- How contracts see a card.
use Rattle.std.specs.Prelude.{◌≡◌, ℕ, ◌≤◌, ◌<◌, List, [], length, take, Option, Some, None, IfSome, IsSome, option_map, unwrap_or, Bool, true, false, ◌||◌, if◌then◌else◌, not, is_none}
use Rattle.apdu_core.specs.declared.header.Header.{Header}
use Rattle.apdu_core.specs.Chaining.{ChainState, idle}
use Rattle.apdu_core.specs.StatusWord.{count}
use Rattle.t0_core.specs.Meaning.{Prepared, Nothing, Receiving, Sending, Decided}
use Rattle.object_card.specs.declared.limits.TheConstants.{VALUE_LIMIT}
use Rattle.object_card.specs.declared.response.Response.{Response}
use Rattle.object_card.specs.declared.ready.Ready.{Ready}
use Rattle.object_card.specs.declared.ready.Ready.TheVariants as ready
use Rattle.object_card.specs.State.{CardState, IsCardState, NothingPending, with_pending}
use Rattle.object_card.specs.OneStep.{with_put}
use Rattle.object_card.specs.Tables.{is_locked}
use Rattle.object_card.specs.Refusals.{refusal, is_select, is_put, is_get, is_get_response, to_send}
use Rattle.object_card.specs.CardFields.{ApplicationView, HasPlace, IsResponse, held_at, entries_at, left_of, state_of}

-- the state in effect, and what is prepared
pub record CardView : Type 0 where
  pub state : CardState
  pub prepared : Prepared CardState

-- a value to put: its tag, and its bytes
abbrev pub NewValue : Type 0
NewValue = List ℕ × List ℕ

-- the chain before a piece joined it
abbrev pub chain_before : ChainState → Option ℕ → ChainState
chain_before chain None = idle chain.limit
chain_before chain (Some len) = record chain { bytes = take len chain.bytes }

-- the number of bytes in the pending chain, if there is one
abbrev pub length_before : ChainState → Option ℕ
length_before chain = option_map (λ first. length chain.bytes) chain.pending

-- the chain in effect
abbrev pub standing_chain : ChainState → Ready → ChainState
standing_chain chain (ready.Joins before) = chain_before chain before
standing_chain chain _ = chain

-- what will be selected and pending once SW2 is sent, and whether a chain will be
abbrev pub selected_after : Ready → Option ℕ → Option ℕ
selected_after (ready.Selects application response) selected = Some application
selected_after _ selected = selected

abbrev pub response_after : Ready → Option Response
response_after (ready.Leaves response) = response
response_after (ready.Selects application response) = Some response
response_after _ = None

abbrev pub keeps_chain : Ready → Bool
keeps_chain (ready.Joins before) = true
keeps_chain _ = false

-- Whether no chain is in effect, if the chain is pending or not. A piece that joins one has no
-- effect yet.
abbrev pub stands_idle : Ready → Bool → Bool
stands_idle (ready.Joins before) pending = is_none before || not pending
stands_idle _ pending = not pending

-- the chain once SW2 is sent
abbrev pub settled_chain : ChainState → Ready → ChainState
settled_chain chain next = if keeps_chain next then chain else idle chain.limit

-- the state with this value put, and nothing pending
abbrev pub state_with : CardState → Option NewValue → CardState
state_with state None = state
state_with state (Some value) =
    with_pending (with_put state (unwrap_or state.selected []) value.0 value.1) NothingPending

-- what is prepared, in this state
abbrev pub prepared_of : List ApplicationView → Option ℕ → ChainState → Option Response → Ready
    → Option NewValue → Prepared CardState
prepared_of held selected chain response ready.Nothing put = Nothing
prepared_of held selected chain response (ready.Receives h p3 cut) put =
    Receiving (record { header = h; p3 = p3; cut = cut })
prepared_of held selected chain response (ready.Sends h p3 cut sent) put =
    Sending (record { header = h; p3 = p3; cut = cut })
    (take (count p3) (left_of (entries_at held selected) sent))
prepared_of held selected chain response (ready.Leaves next) put =
    Decided (state_of held selected (idle chain.limit) next)
prepared_of held selected chain response (ready.Selects application next) put =
    Decided (state_of held (Some application) (idle chain.limit) (Some next))
prepared_of held selected chain response (ready.Joins before) put =
    Decided (state_of held selected chain None)
prepared_of held selected chain response ready.Stores put =
    Decided (state_with (state_of held selected chain response) put)

abbrev pub view_of : List ApplicationView → Option ℕ → ChainState → Option Response → Ready
    → Option NewValue → CardView
view_of held selected chain response ready put = record {
  state = state_of held selected (standing_chain chain ready) response;
  prepared = prepared_of held selected chain response ready put;
}

-- The fields except what is prepared: a sound state; only a chain of PUT DATA; a pending response
-- only if no chain is pending.
pub record IsStanding (held : List ApplicationView) (selected : Option ℕ) (chain : ChainState)
    (response : Option Response) : Type 0 where
  pub sound : IsCardState (state_of held selected chain response)
  pub selected_is : IfSome selected (λ place. place < length held)
  pub limit_is : chain.limit ≡ VALUE_LIMIT
  pub of_puts : IfSome chain.pending (λ h. (h.cla ≡ 0x00) × (h.ins ≡ 0xDA))
  pub response_is : IfSome response (IsResponse (entries_at held selected))
  pub alone : IsSome response → chain.pending ≡ None

-- a command that was not refused, and its cut
pub record IsAsked (state : CardState) (h : Header) (p3 cut : ℕ) : Type 0 where
  pub taken : refusal state h p3 ≡ None
  pub small : p3 < 256
  pub cut_from : 1 ≤ cut
  pub cut_to : cut ≤ 256

-- what is prepared suits the state
abbrev pub IsReady : List ApplicationView → Option ℕ → ChainState → Option Response → Ready
    → Option NewValue → Type 0
IsReady held selected chain response ready.Nothing put = put ≡ None
IsReady held selected chain response (ready.Receives h p3 cut) put =
    IsAsked (state_of held selected chain response) h p3 cut × (is_select h || is_put h ≡ true)
    × (put ≡ None)
IsReady held selected chain response (ready.Sends h p3 cut sent) put =
    IsAsked (state_of held selected chain response) h p3 cut
    × (is_get h || is_get_response h ≡ true)
    × IsResponse (entries_at held selected) sent
    × (left_of (entries_at held selected) sent ≡ to_send (state_of held selected chain response) h)
    × (put ≡ None)
IsReady held selected chain response (ready.Leaves next) put =
    IsStanding held selected (idle chain.limit) next × (put ≡ None)
IsReady held selected chain response (ready.Selects application next) put =
    IsStanding held (Some application) (idle chain.limit) (Some next) × (put ≡ None)
IsReady held selected chain response (ready.Joins before) put =
    IsStanding held selected chain None × IfSome before (λ len. len ≤ length chain.bytes)
    × (put ≡ None)
IsReady held selected chain response ready.Stores put =
    (a : ApplicationView) × (tag value : List ℕ) × (held_at held selected ≡ Some a)
    × (put ≡ Some (tag, value)) × HasPlace a tag
    × (is_locked tag a.entries ≡ false)
    × IsCardState (state_with (state_of held selected chain response) put)

-- the invariant of the fields
pub record IsCard (held : List ApplicationView) (selected : Option ℕ) (chain : ChainState)
    (response : Option Response) (ready : Ready) (put : Option NewValue) : Type 0 where
  pub standing : IsStanding held selected (standing_chain chain ready) response
  pub fits : IsReady held selected chain response ready put
