-- `HeldCard` as a kind of handle.
use Rattle.std.proofs.Common.{refl}
use Rattle.card_c.proofs.HeldKind.{Kind}
use Rattle.card_c.specs.contracts.card_side.CardSide as side
use Rattle.card_c.specs.contracts.held_card.HeldCard as held

abbrev pub kind : Kind
kind = record {
  content = side.the_row;
  name = held.the_type.name;
  row = held.the_row;
  make = λ p a v. record { at = p; alloc = a; value = v };
  value = λ d. d.value;
  as_made = λ d. (d.at, (d.alloc, refl));
  valued = λ p a v. refl;
  owns_some = λ p a x vs. refl;
  owns_none = λ a vs. refl;
  last = λ d. tt;
  none_left = λ d f. tt;
}
