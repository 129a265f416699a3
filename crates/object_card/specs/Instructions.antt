-- The instructions of a card of data objects: the INS of each, and the direction of its data
-- (ISO/IEC 7816-4, SELECT, GET DATA, PUT DATA and GET RESPONSE).
use Rattle.std.specs.Prelude.{◌≡◌, ℕ, Option, Some, None, Bool, true, false, ◌==◌, if◌then◌else◌}
use Rattle.apdu_core.specs.declared.header.Header.{Header}
use Rattle.object_card.specs.declared.instructions.Instruction.{Instruction}
use Rattle.object_card.specs.declared.instructions.Instruction.TheVariants.{Select, GetData, PutData, GetResponse}

-- INS
abbrev pub ins_of : Instruction → ℕ
ins_of Select = 0xA4
ins_of GetData = 0xCA
ins_of PutData = 0xDA
ins_of GetResponse = 0xC0

-- whether data go to the card; otherwise they come from it
abbrev pub takes_data : Instruction → Bool
takes_data Select = true
takes_data GetData = false
takes_data PutData = true
takes_data GetResponse = false

-- the instruction with this INS, if the card accepts it
abbrev pub instruction_of : ℕ → Option Instruction
instruction_of ins =
    if ins == ins_of Select then Some Select else if ins == ins_of GetData then Some GetData
    else if ins == ins_of PutData then Some PutData
    else if ins == ins_of GetResponse then Some GetResponse else None

-- data to the card may follow this header
abbrev pub MayReceive : Header → Type 0
MayReceive h = (i : Instruction) × (h.ins ≡ ins_of i) × (takes_data i ≡ true)

-- data from the card may follow this header
abbrev pub MaySend : Header → Type 0
MaySend h = (i : Instruction) × (h.ins ≡ ins_of i) × (takes_data i ≡ false)
