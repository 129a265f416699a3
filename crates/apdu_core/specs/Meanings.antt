-- The meanings of status words (ISO/IEC 7816-4, 5.1.3): which of them fit a word.
use Rattle.std.specs.Prelude.{ℕ, ◌+◌, ◌*◌, ◌-◌, Bool, true, ◌&&◌, ◌||◌, nat_le, ◌==◌}
use Rattle.apdu_core.specs.StatusWord.{StatusWord}
use Rattle.apdu_core.specs.declared.meaning.Commands.{Commands}
use Rattle.apdu_core.specs.declared.meaning.Commands.TheVariants as commands
use Rattle.apdu_core.specs.declared.meaning.Meaning.{Meaning}

-- After these 63CX counts tries: commands of reference data, and EXTERNAL AUTHENTICATE, in a class
-- of the standard.
abbrev pub counts_tries : ℕ → ℕ → Bool
counts_tries cla ins = nat_le cla 0x7F && (ins == 0x20 || ins == 0x21 || ins == 0x24 || ins == 0x25
    || ins == 0x26 || ins == 0x28 || ins == 0x2C || ins == 0x2D || ins == 0x82)

-- The command with this CLA and INS is one of them.
abbrev pub is_of : Commands → ℕ → ℕ → Bool
is_of commands.Any cla ins = true
is_of commands.Sim cla ins = cla == 0xA0
is_of commands.Tries cla ins = counts_tries cla ins

-- SW1 SW2 as one number
abbrev pub word_of : StatusWord → ℕ
word_of sw = sw.0 * 256 + sw.1

-- A meaning is for this word after a command with this CLA and INS.
abbrev pub fits : ℕ → ℕ → ℕ → Meaning → Bool
fits cla ins word m = is_of m.commands cla ins && nat_le m.first word && nat_le word m.last

-- The number in its words: how far the word is from the first.
abbrev pub number_of : Meaning → ℕ → ℕ
number_of m word = word - m.first
