-- What is copied to an array of C.
use Rattle.std.specs.Prelude.{◌≡◌, ◌⊎◌, ℕ, ℤ, ◌+◌, ◌*◌, List, ◌++◌, drop, length, ◌≤◌, ◌<◌}
use Rattle.apdu_core.specs.StatusWord.{StatusWord}
use Rattle.card_c.specs.Codes.{gt_ok, gt_buffer}

-- all bytes are at the array's front if they fit, otherwise the array is as it was
abbrev pub IsCopied : List ℕ → List ℕ → ℤ → List ℕ → Type 0
IsCopied from room code after =
    ((length from ≤ length room) × (code ≡ gt_ok) × (after ≡ from ++ drop (length from) room))
    ⊎ ((length room < length from) × (code ≡ gt_buffer) × (after ≡ room))

-- a status word as a number: 0x9000
abbrev pub status_number : StatusWord → ℕ
status_number word = word.0 * 256 + word.1

-- An answer is written: its status, the number of its data bytes, and these if they fit.
abbrev pub GoesOut : StatusWord → List ℕ → List ℕ → ℤ → ℕ → List ℕ → ℕ → Type 0
GoesOut word bytes room code status' room' len' =
    (status' ≡ status_number word) × (len' ≡ length bytes) × IsCopied bytes room code room'
