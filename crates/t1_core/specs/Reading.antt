-- What each block is in a dialogue, as a third party reads it by N(S), N(R) and the blocks before
-- it (ISO/IEC 7816-3, clause 11, rules of operation).
use Rattle.std.specs.Prelude.{ℕ, Bool, true, false, not, List, length, take, nat_lt, Option, Some, None, cond, if◌then◌else◌}
use Rattle.std.specs.Str.{bytes_eq}
use Rattle.t1_core.specs.declared.block.Control.{Control}
use Rattle.t1_core.specs.declared.block.Control.TheVariants.{Resynch, Ifs, Abort}
use Rattle.t1_core.specs.declared.reading.End.{End}
use Rattle.t1_core.specs.declared.reading.End.TheVariants.{Terminal, Card}
use Rattle.t1_core.specs.declared.reading.Numbers.{Numbers}
use Rattle.t1_core.specs.declared.reading.Reading.{Reading}
use Rattle.t1_core.specs.declared.reading.Role.{Role}
use Rattle.t1_core.specs.declared.reading.Role.TheVariants as role
use Rattle.t1_core.specs.Block.{I, R, Request, Response, other, same}
use Rattle.t1_core.specs.Items.{Found, Valid}

-- the more-data bit of an I-block, and its field
abbrev pub Content : Type 0
Content = Bool × List ℕ

abbrev pub peer : End → End
peer Terminal = Card
peer Card = Terminal

abbrev pub is_end : End → End → Bool
is_end Terminal Terminal = true
is_end Card Card = true
is_end Terminal Card = false
is_end Card Terminal = false

-- after a reset, and after S(RESYNCH response) of the card
abbrev pub fresh : Reading
fresh =
    record {
      missed = false;
      turn = Terminal;
      within = false;
      terminal = record { next = false; newest = None; ifs = None };
      card = record { next = false; newest = None; ifs = None };
    }

abbrev pub numbers_of : End → Reading → Numbers
numbers_of Terminal r = r.terminal
numbers_of Card r = r.card

abbrev pub with_numbers : Reading → End → Numbers → Reading
with_numbers r Terminal n = record r { terminal = n }
with_numbers r Card n = record r { card = n }

-- an I-block was sent
abbrev pub sent : Reading → End → (number : Bool) → Content → Reading
sent r from number content =
    with_numbers r from (record (numbers_of from r) { next = other number; newest = Some content })

-- it is in turn: its end continues within a chain, or the other end begins
abbrev pub goes : Reading → End → (within : Bool) → Reading
goes r from within = record r { turn = cond within from (peer from); within = within }

-- no command is in progress, and no newest I-block is known
abbrev pub rested : Reading → Reading
rested r =
    record r {
      turn = Terminal;
      within = false;
      terminal = record r.terminal { newest = None };
      card = record r.card { newest = None };
    }

-- An I-block of the card ends a response, and the terminal's N(S) was heard before it.
abbrev pub is_clear : Option Content → End → (more : Bool) → Bool
is_clear (Some content) Card false = true
is_clear _ _ _ = false

-- Something was missed. Roles are unknown until a response has ended.
abbrev pub misses : Reading → End → (number : Bool) → Content → Reading
misses r from number content =
    let known : Reading = cond r.missed r (rested r) in
    record (sent known from number content) {
      missed = not (is_clear known.terminal.newest from content.0);
    }

-- no other I-block has followed the newest one of this end
abbrev pub is_newest : Reading → End → Bool
is_newest r from = same r.within (is_end from r.turn)

abbrev pub is_same : Content → Content → Bool
is_same old new = if same old.0 new.0 then bytes_eq old.1 new.1 else false

-- The other end has granted an IFS, and the field is longer. So its first bytes come, and more
-- follow (rule of the IFS).
abbrev pub is_cut : (ifs : Option ℕ) → (field : List ℕ) → Content → Bool
is_cut None field new = false
is_cut (Some size) field new =
    if nat_lt size (length field) then is_same (true, take size field) new else false

-- the newest I-block once more, as it was, or cut
abbrev pub repeats : (newest : Option Content) → (ifs : Option ℕ) → Content → Bool
repeats None ifs new = false
repeats (Some old) ifs new = if is_same old new then true else is_cut ifs old.1 new

-- With the next N(S), and in turn, an I-block is new. With the other N(S) it is the newest of its
-- end once more.
abbrev pub role_of : Reading → End → (number : Bool) → Content → Role
role_of r from number content =
    let numbers : Numbers = numbers_of from r in
    let last : Bool = not content.0 in
    if r.missed then role.Unknown
    else if same number numbers.next
    then (if is_end from r.turn then role.Field (not r.within) last else role.Unknown)
    else if repeats numbers.newest numbers.ifs content then role.Repetition last
    else role.Unknown

-- a block that comes late does not change whose turn it is
abbrev pub moves_on : Role → Reading → End → Bool
moves_on (role.Repetition last) r from = is_newest r from
moves_on known r from = true

abbrev pub after_role : Role → Reading → End → (number : Bool) → Content → Reading
after_role role.Unknown r from number content = misses r from number content
after_role known r from number content =
    let now : Reading = sent r from number content in
    cond (moves_on known r from) (goes now from content.0) now

abbrev pub information : Role → Reading → End → (number : Bool) → Content → Role × Reading
information role r from number content = (role, after_role role r from number content)

-- in a chain of the other end, the next N(R) acknowledges its newest I-block (rule of chaining)
abbrev pub ready : Reading → End → (number : Bool) → Role
ready r from number =
    if r.missed then role.Unknown
    else if cond r.within (cond (is_end from r.turn) false (same number
    (numbers_of (peer from) r).next)) false
    then role.Acknowledgement
    else role.Asks

-- S(RESYNCH) is the terminal's request. S(IFS response) grants the longest field of its sender.
-- S(ABORT) ends a chain (rules of S-blocks).
abbrev pub confirmed : Reading → End → Control → Reading
confirmed r Card Resynch = fresh
confirmed r from (Ifs size) =
    with_numbers r from (record (numbers_of from r) { ifs = Some size })
confirmed r from Abort = rested r
confirmed r from _ = r

-- the role of an item, and the reading after it
abbrev pub reads : Reading → End → Found → Role × Reading
reads r from (Valid (I number more field)) =
    information (role_of r from number (more, field)) r from number (more, field)
reads r from (Valid (R number reason)) = (ready r from number, r)
reads r from (Valid (Request control)) = (role.Control, r)
reads r from (Valid (Response control)) = (role.Control, confirmed r from control)
reads r from invalid = (role.Invalid, r)
