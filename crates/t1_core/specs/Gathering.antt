-- The commands and responses that the items of a tap make up.
use Rattle.std.specs.Prelude.{ℕ, Bool, true, false, List, [], ◌++◌, length, take, cond}
use Rattle.t1_core.specs.declared.block.Control.TheVariants.{Resynch, Abort}
use Rattle.t1_core.specs.declared.gathered.Progress.{Progress}
use Rattle.t1_core.specs.declared.gathered.Progress.TheVariants.{Nothing, Begun, Whole, Unknown}
use Rattle.t1_core.specs.declared.reading.End.{End}
use Rattle.t1_core.specs.declared.reading.End.TheVariants.{Card}
use Rattle.t1_core.specs.declared.reading.Role.{Role}
use Rattle.t1_core.specs.declared.reading.Role.TheVariants as role
use Rattle.t1_core.specs.Block.{I, Response}
use Rattle.t1_core.specs.Hearing.{Item}
use Rattle.t1_core.specs.Items.{Found, Valid}
use Rattle.t1_core.specs.Reading.{is_end}

-- the newest command or response
pub record Gathered : Type 0 where
  pub from : End
  pub bytes : List ℕ
  pub place : ℕ  -- where the newest field begins
  pub progress : Progress

abbrev pub newly : Progress → End → Gathered
newly progress from = record { from = from; bytes = []; place = 0; progress = progress }

-- with this field instead of the bytes from this place on
abbrev pub with_field : Gathered → End → (place : ℕ) → (last : Bool) → List ℕ → Gathered
with_field g from place last field = record {
  from = from;
  bytes = take place g.bytes ++ field;
  place = place;
  progress = cond last Whole Begun;
}

-- A new field follows the others, and the newest one once more replaces it.
abbrev pub gathers : Gathered → End → Role → List ℕ → Gathered
gathers g from (role.Field true last) field = with_field g from 0 last field
gathers g from (role.Field false last) field = with_field g from (length g.bytes) last field
gathers g from (role.Repetition last) field =
    cond (is_end from g.from) (with_field g from g.place last field) g
gathers g from role.Unknown field = newly Unknown from
gathers g from other field = g

abbrev pub adds_found : Gathered → End → Role → Found → Gathered
adds_found g from role (Valid (I number more field)) = gathers g from role field
adds_found g Card role (Valid (Response Resynch)) = newly Nothing Card
adds_found g from role (Valid (Response Abort)) = newly Nothing from
adds_found g from role other = g

-- a field is added
abbrev pub is_added : Gathered → End → Role → Bool
is_added g from (role.Field first last) = true
is_added g from (role.Repetition last) = is_end from g.from
is_added g from other = false

abbrev pub adds_field_of : Gathered → End → Role → Found → Bool
adds_field_of g from role (Valid (I number more field)) = is_added g from role
adds_field_of g from role other = false

abbrev pub adds_field : Gathered → Item → Bool
adds_field g i = adds_field_of g i.from i.role i.found

abbrev pub adds : Gathered → Item → Gathered
adds g i = adds_found g i.from i.role i.found
