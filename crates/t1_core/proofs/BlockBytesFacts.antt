-- Reading the bytes of a block gives the same block.
use Rattle.std.proofs.Common.{◌≡◌, refl, sym, ap, ◌∙◌, ℕ, ◌+◌, ◌*◌, ◌/◌, ◌%◌, ◌≤◌, ◌<◌, Bool, true, false, Option, None, List, [], ◌∷◌, ◌++◌, length, take, Some, slice_index, length-append, arith, nat_lt, ◌==◌, eq-eqb}
use Rattle.std.specs.List.{slice_range}
use Rattle.std.proofs.Math.Seq.{take-append_seam, get_or-append_seam}
use Rattle.t1_core.specs.declared.pcb.Pcb.{Pcb}
use Rattle.t1_core.specs.declared.pcb.Pcb.TheVariants.{Information, Ready, Supervisory}
use Rattle.t1_core.specs.declared.pcb.BlockReason.{BlockReason}
use Rattle.t1_core.specs.declared.pcb.BlockReason.TheVariants.{NoError, Edc, Other}
use Rattle.t1_core.specs.declared.pcb.Subject.TheVariants.{Resynch}
use Rattle.t1_core.specs.declared.line.Fate.{Fate}
use Rattle.t1_core.specs.declared.line.Fate.TheVariants.{Delivers, Damages, Loses}
use Rattle.t1_core.specs.declared.block.Control.{Control}
use Rattle.t1_core.specs.declared.block.Control.TheVariants as control
use Rattle.t1_core.specs.Block.{Block, I, R, Request, Response, Came, Bad, are_filled, is_filled}
use Rattle.t1_core.specs.BlockBytes.{IsPcb, arrival_of, arrives_as, bit, fault_of, pcb_byte, pcb_of, lrc, before_lrc, spelled, parts_of, block_in, block_of, bytes_of, pcb_for, info_of, control_of, controlled, field_of, subject_of}
use Rattle.t1_core.specs.CardSide.{Card, Meaning, card_hears, card_meets}
use Rattle.t1_core.specs.Passing.{bytes_arrive, card_reads, terminal_reads}
use Rattle.t1_core.specs.TerminalSide.{Terminal, takes}
use Rattle.t1_core.specs.World.{arrives}

-- each PCB is read back
pub pcb_again : (p : Pcb) → IsPcb p → pcb_of (pcb_byte p) ≡ Some p
pcb_again (Information true true) h = refl
pcb_again (Information false true) h = refl
pcb_again (Ready number error) h =
    let byte : ℕ = pcb_byte (Ready number error) in
    let low : nat_lt byte 128 ≡ false = grind arith in
    let high : nat_lt byte 192 ≡ true = ready_below number (error % 16) (omega arith) in
    let clear : (byte / 32 % 2 == 0) ≡ true = ready_clear number (error % 16) (omega arith) in
    let number_is : (byte / 16 % 2 == 1) ≡ number =
    ready_number number (error % 16) (omega arith) in
    let error_is : byte % 16 ≡ error =
    ready_error number (error % 16) (omega arith) ∙ omega (arith, h) in
    rw (low, high, clear, number_is, error_is) refl where
      ready_below : (n : Bool) (e : ℕ) → e < 16 → nat_lt (128 + 16 * bit n + e) 192 ≡ true
      ready_below true e few = grind (arith, few)
      ready_below false e few = grind (arith, few)

      ready_clear : (n : Bool) (e : ℕ) → e < 16
          → ((128 + 16 * bit n + e) / 32 % 2 == 0) ≡ true
      ready_clear true e few = eq-eqb _ _ (omega (arith, few))
      ready_clear false e few = eq-eqb _ _ (omega (arith, few))

      ready_number : (n : Bool) (e : ℕ) → e < 16
          → ((128 + 16 * bit n + e) / 16 % 2 == 1) ≡ n
      ready_number true e few = eq-eqb _ _ (omega (arith, few))
      ready_number false e few =
          let none : (128 + 16 * bit false + e) / 16 % 2 ≡ 0 = omega (arith, few) in
          ap (λ k. k == 1) none

      ready_error : (n : Bool) (e : ℕ) → e < 16 → (128 + 16 * bit n + e) % 16 ≡ e
      ready_error true e few = omega (arith, few)
      ready_error false e few = omega (arith, few)
pcb_again (Supervisory true Resynch) h = refl
pcb_again (Supervisory false Resynch) h = refl
pcb_again _ h = refl

-- the tests of `parts_of`, one premise each
reads : (bytes info : List ℕ) (p : Pcb) (len : ℕ) → IsPcb p
    → slice_index bytes 2 ≡ len → length bytes ≡
    len + 4 → len ≤ 254
    → slice_index bytes 0 ≡ 0 → slice_index bytes 1 ≡ pcb_byte p → slice_index bytes (len + 3) ≡
    lrc (take (len + 3) bytes)
    → slice_range bytes 3 (len + 3) ≡ info → parts_of bytes ≡ Some (p, info)
reads bytes info p len valid is_len long few nad is_pcb check is_info =
    let long_enough : nat_lt (length bytes) 4 ≡ false = grind arith in
    let not_255 : (len == 255) ≡ false = grind arith in
    let as_long : (length bytes == len + 4) ≡ true = eq-eqb _ _ long in
    let nad_is : (slice_index bytes 0 == 0) ≡ true = eq-eqb _ _ nad in
    let holds : (slice_index bytes (len + 3) == lrc (take (len + 3) bytes)) ≡ true = eq-eqb _ _
    check in
    rw (long_enough, is_len) (rw (not_255, as_long, nad_is, holds)
    (rw (is_pcb, pcb_again p valid) (rw is_info refl)))

pub reads_spelled : (p : Pcb) (info : List ℕ) → IsPcb p → length info ≤ 254
    → parts_of (spelled p info) ≡
    Some (p, info)
reads_spelled p info valid few =
    let front : List ℕ = before_lrc p info in
    let n : length info + 3 ≡ length front = omega arith in
    reads (spelled p info) info p (length info) valid refl
    (length-append front (lrc front ∷ []) ∙ omega arith)
    few refl refl
    (ap (λ k. slice_index (spelled p info) k) n ∙ get_or-append_seam front (lrc front) [] 0
    ∙ ap lrc (sym (take-append_seam front (lrc front ∷ []))) ∙ ap
    (λ k. lrc (take k (spelled p info))) (sym n))
    (ap (λ k. take k (info ++ lrc front ∷ [])) (omega arith) ∙ take-append_seam info
    (lrc front ∷ []))

-- each block is read back
controls : (c : Control) → control_of (subject_of c) (field_of c) ≡ Some c
controls control.Resynch = refl
controls _ = refl

block_again : (b : Block) → is_filled b ≡ true → block_in (Some (pcb_for b, info_of b)) ≡ Some b
block_again (I number true []) filled = absurd (cc)
block_again (I number true (b ∷ field)) filled = refl
block_again (I number false field) filled = refl
block_again (R number NoError) filled = refl
block_again (R number _) filled = refl
block_again (Request c) filled = ap (controlled false) (controls c)
block_again (Response c) filled = ap (controlled true) (controls c)

is_pcb : (b : Block) → IsPcb (pcb_for b)
is_pcb (R number NoError) = omega arith
is_pcb (R number Edc) = omega arith
is_pcb (R number Other) = omega arith
is_pcb _ = tt

pub reads_written : (b : Block) (bytes : List ℕ) → length (info_of b) ≤ 254 → is_filled b ≡ true
    → bytes ≡ bytes_of b → block_of bytes ≡ Some b
reads_written b bytes few filled is =
    ap block_of is ∙ ap block_in (reads_spelled (pcb_for b) (info_of b) (is_pcb b) few)
    ∙ block_again b filled

-- a block that was read has a field if its more-data bit is set
controlled_is_filled : (reason : BlockReason) (response : Bool) (c : Option Control)
    → are_filled (arrives_as reason (controlled response c)) ≡ true
controlled_is_filled reason response None = refl
controlled_is_filled reason true (Some c) = refl
controlled_is_filled reason false (Some c) = refl

block_is_filled : (reason : BlockReason) (parts : Option (Pcb × List ℕ))
    → are_filled (arrives_as reason (block_in parts)) ≡ true
block_is_filled reason (Some (Information number true, [])) = refl
block_is_filled reason (Some (Ready number error, x ∷ field)) = refl
block_is_filled reason (Some (Supervisory response what, field)) =
    controlled_is_filled reason response (control_of what field)
block_is_filled reason _ = refl

pub read_is_filled : (bytes : List ℕ) → are_filled (arrival_of bytes) ≡ true
read_is_filled bytes = block_is_filled (fault_of bytes) (parts_of bytes)

-- ---- the line of bytes

-- a block's own bytes arrive as that block
pub arrives_written : (b : Block) → length (info_of b) ≤ 254 → is_filled b ≡ true
    → arrival_of (bytes_of b) ≡ Came b
arrives_written b short filled =
    ap (arrives_as (fault_of (bytes_of b))) (reads_written b (bytes_of b) short filled refl)

module _ (fate : Fate) (b : Block) (noise : List ℕ) (short : length (info_of b) ≤ 254)
    (filled : is_filled b ≡ true) (none : arrival_of noise ≡ Bad Edc) where
  pub card_reads_so : (m : Meaning) (c : Card)
      → card_reads m (bytes_arrive fate noise (bytes_of b)) c ≡ card_meets m fate b c
  card_reads_so m c = by fate where
    by : (f : Fate) → card_reads m (bytes_arrive f noise (bytes_of b)) c ≡ card_meets m f b c
    by Delivers = ap (λ o. card_hears m o c) (arrives_written b short filled)
    by Damages = ap (λ o. card_hears m o c) none
    by Loses = refl

  pub terminal_reads_so : (t : Terminal)
      → terminal_reads t (bytes_arrive fate noise (bytes_of b)) ≡ takes t (arrives fate (Some b))
  terminal_reads_so t = by fate where
    by : (f : Fate)
        → terminal_reads t (bytes_arrive f noise (bytes_of b)) ≡ takes t (arrives f (Some b))
    by Delivers = ap (takes t) (arrives_written b short filled)
    by Damages = ap (takes t) none
    by Loses = refl
