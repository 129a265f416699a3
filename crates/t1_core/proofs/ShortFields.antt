-- A field of a valid block has at most 254 bytes.
use Rattle.std.proofs.Common.{arith, ◌≡◌, ◌≤◌, ◌+◌, ◌-◌, refl, sym, subst, ap, ℕ, Bool, true, false, not, List, [], ◌∷◌, length, drop, slice_index, slice_range, Option, Some, None, nat_lt, cond}
use Rattle.std.proofs.lemmas.Bool.{ltb-true}
use Rattle.std.proofs.lemmas.List.{length-take}
use Rattle.t1_core.specs.declared.block.Control.{Control}
use Rattle.t1_core.specs.declared.found.Damage.TheVariants as damage
use Rattle.t1_core.specs.declared.pcb.Pcb.{Pcb}
use Rattle.t1_core.specs.declared.pcb.Pcb.TheVariants.{Information, Ready, Supervisory}
use Rattle.t1_core.specs.declared.settings.Edc.{Edc}
use Rattle.t1_core.specs.Block.{Block, I}
use Rattle.t1_core.specs.BlockBytes.{control_of, controlled, info_of, pcb_of}
use Rattle.t1_core.specs.Items.{Found, Valid, Damaged, Cut, IsShort, damaged_check, found_block, found_field, found_in, is_checked, is_complete, is_nad}

length_range : (bytes : List ℕ) (len : ℕ) → length (slice_range bytes 3 (len + 3)) ≤ len
length_range bytes len =
    let is = length-take (len + 3 - 3) (drop 3 bytes) in omega (arith, is)

short_block : (len : ℕ) (b : Block) → ((number more : Bool) (field : List ℕ)
    → b ≡ I number more field → length field ≤ len) → IsShort (found_block len (Some b))
short_block len b fits = by (nat_lt len 255) refl where
  is_short : (b : Block) → ((number more : Bool) (field : List ℕ)
      → b ≡ I number more field → length field ≤ 254) → IsShort (Valid b)
  is_short (I number more field) fits = fits number more field refl
  is_short _ fits = tt

  by : (v : Bool) → nat_lt len 255 ≡ v → IsShort (cond v (Valid b) (Damaged damage.Len))
  by true below = is_short b (λ number more field is.
      let within = fits number more field is in
      let under = ltb-true len 255 below in omega (arith, within, under))
  by false above = tt

short_control : (len : ℕ) (response : Bool) (control : Option Control)
    → IsShort (found_block len (controlled response control))
short_control len response None = tt
short_control len true (Some control) = short_block len _ (λ number more field is. absurd (cc))
short_control len false (Some control) = short_block len _ (λ number more field is. absurd (cc))

short_field : (len : ℕ) (pcb : Option Pcb) (info : List ℕ) → length info ≤ len
    → IsShort (found_field len pcb info)
short_field len None info within = tt
short_field len (Some (Information number true)) [] within = tt
short_field len (Some (Information number true)) (b ∷ field) within =
    short_block len (I number true (b ∷ field)) (λ number more f is.
    let same = ap length (ap info_of is) in omega (arith, same, within))
short_field len (Some (Information number false)) field within =
    short_block len (I number false field) (λ number more f is.
    let same = ap length (ap info_of is) in omega (arith, same, within))
short_field len (Some (Ready number error)) [] within =
    short_block len _ (λ number more field is. absurd (cc))
short_field len (Some (Ready number error)) (b ∷ field) within = tt
short_field len (Some (Supervisory response what)) field within =
    short_control len response (control_of what field)

found_short : (edc : Edc) (bytes : List ℕ) → IsShort (found_in edc bytes)
found_short edc bytes =
    let len : ℕ = slice_index bytes 2 in
    by (is_complete edc bytes) (is_checked edc bytes (len + 3)) (is_nad (slice_index bytes 0)) len
    (length_range bytes len) where
      by : (complete checked nad : Bool) (len : ℕ) → length (slice_range bytes 3 (len + 3)) ≤ len
          → IsShort (cond (not complete) Cut (cond (not checked) (Damaged (damaged_check edc))
          (cond (not nad) (Damaged damage.Nad) (found_field len (pcb_of (slice_index bytes 1))
          (slice_range bytes 3 (len + 3))))))
      by false checked nad len within = tt
      by true false nad len within = tt
      by true true false len within = tt
      by true true true len within = short_field len _ _ within

pub is_short : (edc : Edc) (bytes : List ℕ) (found : Found) → found ≡ found_in edc bytes
    → IsShort found
is_short edc bytes found is = subst IsShort (sym is) (found_short edc bytes)
