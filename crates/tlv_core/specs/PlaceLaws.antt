-- The places that a reader reaches step by step, and the first fault among them.
use Rattle.std.proofs.Common.{ℕ, suc, List, ◌∷◌}
use Rattle.tlv_core.specs.Spelling.{Forest, Spells}
use Rattle.tlv_core.specs.Place.{Reached, at_front, past_padding, past_object, into_template}
use Rattle.tlv_core.specs.FirstFault.{IsFault}
use Rattle.tlv_core.specs.declared.fault.Reason.{Reason}
use Rattle.tlv_core.specs.StartLaws.{starts_fails_not}
use Rattle.tlv_core.specs.SpellingLaws.{spells_less, spelled_object, after_is_spelled, inside_is_spelled}

-- If a forest spells the bytes, one spells what is left at each place.
pub reached_spelled : (bytes : List ℕ) (level place : ℕ) (left : List ℕ) (depth : ℕ)
    (path : List (List ℕ))
    → Reached bytes level place left depth path → (forest : Forest) × Spells forest bytes level
    → (forest : Forest) × Spells forest left depth
reached_spelled bytes level place left depth path (at_front p l d t) h = rw (l, d) h
reached_spelled bytes level place left depth path (past_padding rest next b p r) (forest, h) =
    let k : Spells forest (0 ∷ rest) level = rw (← b) h in
    reached_spelled rest level next left depth path r (forest, spells_less forest rest level k)
reached_spelled bytes level place left depth path (past_object t s v rest next o p r) h =
    reached_spelled rest level next left depth path r (after_is_spelled bytes t s v rest level o h)
reached_spelled bytes level place left depth path
    (into_template t s v rest inner below o kind p q r) h =
    reached_spelled v (suc level) inner left depth below r
    (inside_is_spelled bytes t s v rest level o kind h)

-- Bytes that spell a forest have no fault.
pub spelled_has_no_fault : (bytes : List ℕ) (level place : ℕ) (reason : Reason) → (forest : Forest)
    × Spells forest bytes level
    → IsFault bytes level place reason → ⊥
spelled_has_no_fault bytes level place reason h f =
    let (forest, spells) = reached_spelled bytes level place f.left f.depth f.path f.reached h in
    let o = spelled_object forest f.left f.depth f.at_object spells in
    starts_fails_not f.left o.tag o.size o.value o.rest f.depth reason o.starts o.in_depth f.fails
