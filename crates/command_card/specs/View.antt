-- How contracts see the card.
use Rattle.std.specs.Prelude.{◌≡◌, ◌⊎◌, ℕ, ◌≤◌, List, [], length, take, drop, Bool, true, false, if◌then◌else◌}
use Rattle.apdu_core.specs.declared.header.Header.{Header}
use Rattle.apdu_core.specs.StatusWord.{StatusWord, count}
use Rattle.t0_core.specs.Meaning.{Ask, Prepared, Nothing, Receiving, Sending, Decided, answered_with}
use Rattle.t0_core.specs.declared.tpdu_card.Verdict.{Verdict}
use Rattle.t0_core.specs.declared.tpdu_card.Verdict.TheVariants.{Refuse, Receive, Send}
use Rattle.command_card.specs.declared.ready.Waiting.{Waiting}
use Rattle.command_card.specs.declared.ready.Waiting.TheVariants as waiting
use Rattle.command_card.specs.declared.ready.Ending.{Ending}
use Rattle.command_card.specs.declared.ready.Ready.{Ready}
use Rattle.command_card.specs.declared.ready.Ready.TheVariants as ready
use Rattle.command_card.specs.Carrying.{Did}
use Rattle.command_card.specs.State.{CardState, Left, Nothing_left, For_fetch, For_repeat, Outcome, is_fetch}
use Rattle.command_card.specs.Meaning.{Does, kind_in, Takes}

-- the fields of the card
pub record CardOf (A : Type 0) : Type 0 where
  pub app : A
  pub kept : List ℕ
  pub fresh : List ℕ
  pub waiting : Waiting
  pub ready : Ready

-- the card as it is made
abbrev pub new_card : {A : Type 0} → A → CardOf A
new_card app = record {
  app = app;
  kept = [];
  fresh = [];
  waiting = waiting.Nothing;
  ready = ready.Nothing;
}

-- nothing is kept if nothing is pending
abbrev pub IsEmptied : Waiting → List ℕ → Type 0
IsEmptied waiting.Nothing kept = kept ≡ []
IsEmptied other kept = Unit {0}

-- what is pending in this buffer
abbrev pub left_of : List ℕ → Waiting → Left
left_of bytes waiting.Nothing = Nothing_left
left_of bytes (waiting.Fetch from status) = For_fetch (drop from bytes) status
left_of bytes (waiting.Repeat header status) = For_repeat header bytes status

abbrev pub state_of : {S : Type 0} → S → List ℕ → Waiting → CardState S
state_of app kept waiting = record { app = app; left = left_of kept waiting }

-- the fields of the card at T=1
pub record AppletView (A : Type 0) : Type 0 where
  pub app : A
  pub kept : List ℕ
  pub waiting : Waiting

abbrev pub applet_in : {A S : Type 0} → (A → S) → AppletView A → CardState S
applet_in standing c = state_of (standing c.app) c.kept c.waiting

-- the buffer that an answer is in
abbrev pub buffer_of : Bool → List ℕ → List ℕ → List ℕ
buffer_of fresh kept new = if fresh then new else kept

-- the state once SW2 is sent
abbrev pub state_after : {S : Type 0} → S → S → List ℕ → List ℕ → Ending → CardState S
state_after app next kept fresh e =
    state_of (if e.settles then next else app) (buffer_of e.fresh kept fresh) e.left

abbrev pub ask_of : Header → ℕ → ℕ → Ask
ask_of h p3 cut = record { header = h; p3 = p3; cut = cut }

-- what is prepared
abbrev pub prepared_of : {S : Type 0} → S → S → List ℕ → List ℕ → Ready → Prepared (CardState S)
prepared_of app next kept fresh ready.Nothing = Nothing
prepared_of app next kept fresh (ready.Receives h p3 cut) = Receiving (ask_of h p3 cut)
prepared_of app next kept fresh (ready.Sends h p3 cut from status ending) =
    Sending (ask_of h p3 cut) (take (count p3) (drop from (buffer_of ending.fresh kept fresh)))
prepared_of app next kept fresh (ready.Leaves ending) =
    Decided (state_after app next kept fresh ending)

-- what is prepared suits the state
abbrev pub IsReady : {S : Type 0} → (S → Header → Bool) → (S → Did → S → Type 0) → S → S → List ℕ
    → List ℕ → Waiting → Ready → Type 0
IsReady takes Act app next kept fresh w (ready.Receives h p3 cut) =
    (kind_in takes (state_of app kept w) h p3 ≡ Takes) × (p3 ≤ 255) × (1 ≤ cut) × (cut ≤ 256)
IsReady takes Act app next kept fresh w (ready.Sends h p3 cut from status ending) =
    Does takes Act (state_of app kept w) cut
    (answered_with (ask_of h p3 cut)
    (take (count p3) (drop from (buffer_of ending.fresh kept fresh))) status)
    (state_after app next kept fresh ending)
IsReady takes Act app next kept fresh w other = Unit {0}

-- The verdict and what is prepared bring this outcome from this buffer.
abbrev pub Prepares : List ℕ → Ask → Outcome → Bool → Bool → Verdict → Ready → Type 0
Prepares bytes ask o settles fresh (Refuse status) r =
    (left : Waiting)
    × (r ≡ ready.Leaves (record { settles = settles; fresh = fresh; left = left }))
    × (o.received ≡ []) × (o.status ≡ status) × (left_of bytes left ≡ o.left)
Prepares bytes ask o settles fresh Receive r = ⊥
Prepares bytes ask o settles fresh Send r =
    (from : ℕ) × (status : StatusWord) × (left : Waiting)
    × (r ≡ ready.Sends ask.header ask.p3 ask.cut from status
    (record { settles = settles; fresh = fresh; left = left }))
    × (o.received ≡ take (count ask.p3) (drop from bytes))
    × (length (take (count ask.p3) (drop from bytes)) ≡ count ask.p3)
    × (o.status ≡ status) × (left_of bytes left ≡ o.left)

-- the state in effect, and what is prepared
abbrev pub standing_in : {A S : Type 0} → (A → S) → CardOf A → CardState S
standing_in standing c = state_of (standing c.app) c.kept c.waiting

abbrev pub prepared_in : {A S : Type 0} → (A → S) → (A → S) → CardOf A → Prepared (CardState S)
prepared_in standing next c = prepared_of (standing c.app) (next c.app) c.kept c.fresh c.ready

-- nothing is pending after a reset
abbrev pub after_reset : {S : Type 0} → (S → S) → CardState S → CardState S
after_reset reset s = record { app = reset s.app; left = Nothing_left }

-- data to the card may follow this header: in some state of the application they do
abbrev pub MayReceive : {S : Type 0} → (S → Header → Bool) → Header → Type 0
MayReceive {S = S} takes h = (is_fetch h ≡ false) × (s : S) × (takes s h ≡ true)

-- data from the card may follow this header: it fetches, or in some state of the application none
-- follow to the card
abbrev pub MaySend : {S : Type 0} → (S → Header → Bool) → Header → Type 0
MaySend {S = S} takes h = (is_fetch h ≡ true) ⊎ ((s : S) × (takes s h ≡ false))

-- a response waits for this header again
abbrev pub WaitsFor : Waiting → Header → Type 0
WaitsFor (waiting.Repeat header status) h = h ≡ header
WaitsFor other h = ⊥

-- the same after SW2
abbrev pub LeavesFor : Ready → Header → Type 0
LeavesFor (ready.Sends h p3 cut from status ending) again = WaitsFor ending.left again
LeavesFor (ready.Leaves ending) again = WaitsFor ending.left again
LeavesFor other again = ⊥
