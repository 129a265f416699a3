-- Which way the data of an instruction go, for traces without signs.
use Rattle.std.specs.Prelude.{ℕ, List, [], ◌∷◌, Option, Some, None, Bool, false, ◌==◌, ◌||◌, nat_lt, if◌then◌else◌, get_or}
use Rattle.t0_core.specs.declared.direction.Direction.{Direction}
use Rattle.t0_core.specs.declared.direction.Direction.TheVariants.{ToCard, FromCard}
use Rattle.trace_explain.specs.declared.read.ways.Ways.{Ways}

abbrev pub is_among : ℕ → List ℕ → Bool
is_among ins [] = false
is_among ins (one ∷ others) = (ins == one) || is_among ins others

-- Instructions of ISO/IEC 7816-4 (7), and of its parts 7 to 9, whose data the card sends: MANAGE
-- CHANNEL, GET CHALLENGE, READ BINARY and READ RECORD. `everywhere` lists four more.
abbrev pub interindustry_from_card : List ℕ
interindustry_from_card = 0x70 ∷ 0x84 ∷ 0xB0 ∷ 0xB2 ∷ []

-- Those whose data the terminal sends, if there are any. With an odd INS the terminal also sends
-- data to read: they name the part that it wants.
abbrev pub interindustry_to_card : List ℕ
interindustry_to_card = 0x04 ∷ 0x0C ∷ 0x0E ∷ 0x0F ∷ 0x10 ∷ 0x12 ∷ 0x14 ∷ 0x20 ∷ 0x21 ∷ 0x22
    ∷ 0x24 ∷ 0x26 ∷ 0x28 ∷ 0x2A ∷ 0x2C ∷ 0x44 ∷ 0x46 ∷ 0x82 ∷ 0x86 ∷ 0x87 ∷ 0x88 ∷ 0xA0 ∷ 0xA1
    ∷ 0xA2 ∷ 0xB1 ∷ 0xB3 ∷ 0xC2 ∷ 0xC3 ∷ 0xCB ∷ 0xD0 ∷ 0xD1 ∷ 0xD2 ∷ 0xD6 ∷ 0xD7
    ∷ 0xDB ∷ 0xDC ∷ 0xDD ∷ 0xE0 ∷ 0xE2 ∷ 0xE4 ∷ 0xE6 ∷ 0xE8 ∷ 0xFE ∷ []

abbrev pub interindustry : ℕ → Option Direction
interindustry ins = if is_among ins interindustry_from_card then Some FromCard
    else if is_among ins interindustry_to_card then Some ToCard else None

-- Classes 80 to 8F. EMV (4.3, Book 3, 6.5): CARD BLOCK, APPLICATION UNBLOCK and BLOCK, PIN
-- CHANGE/UNBLOCK, GET PROCESSING OPTIONS, GENERATE AC. A UICC (ETSI TS 102 221, 10.1.2): TERMINAL
-- PROFILE and RESPONSE, INCREASE, TERMINAL CAPABILITY, ENVELOPE, and FETCH, whose data the card
-- sends. Its STATUS (F2) is GET STATUS to other cards, which takes data. GlobalPlatform (Card
-- Specification 2.3, 11): INITIALIZE UPDATE, EXTERNAL AUTHENTICATE, PUT KEY, STORE DATA, DELETE,
-- INSTALL, LOAD, SET STATUS.
abbrev pub proprietary : ℕ → Option Direction
proprietary ins = if ins == 0x12 then Some FromCard
    else if is_among ins (0x10 ∷ 0x14 ∷ 0x16 ∷ 0x18 ∷ 0x1E ∷ 0x24 ∷ 0x32 ∷ 0x50 ∷ 0x82 ∷ 0xA8
    ∷ 0xAA ∷ 0xAE ∷ 0xC2 ∷ 0xD8 ∷ 0xE2 ∷ 0xE4 ∷ 0xE6 ∷ 0xE8 ∷ 0xF0 ∷ []) then Some ToCard else None

-- A SIM card's class (3GPP TS 51.011, 9.2): the card sends data under FETCH, READ BINARY, READ
-- RECORD and STATUS, and under GET RESPONSE, which `everywhere` lists.
abbrev pub sim : ℕ → Option Direction
sim ins = if is_among ins (0x12 ∷ 0xB0 ∷ 0xB2 ∷ 0xF2 ∷ []) then Some FromCard
    else if is_among ins (0x04 ∷ 0x10 ∷ 0x14 ∷ 0x20 ∷ 0x24 ∷ 0x26 ∷ 0x28 ∷ 0x2C ∷ 0x32 ∷ 0x44 ∷ 0x88
    ∷ 0xA2 ∷ 0xC2 ∷ 0xD6 ∷ 0xDC ∷ 0xFA ∷ []) then Some ToCard else None

-- Every class: GET RESPONSE and GET DATA, SELECT and PUT DATA (profile).
abbrev pub everywhere : ℕ → Option Direction
everywhere ins = if is_among ins (0xC0 ∷ 0xCA ∷ []) then Some FromCard
    else if is_among ins (0xA4 ∷ 0xDA ∷ []) then Some ToCard else None

abbrev pub own_way : ℕ → ℕ → Option Direction
own_way cla ins = if nat_lt cla 0x80 then interindustry ins
    else if nat_lt cla 0x90 then proprietary ins
    else if cla == 0xA0 then sim ins else None

-- Instructions whose answer never has data: they erase, write, update, create, delete, verify or
-- switch (ISO/IEC 7816-4, 7, and 7816-9, without secure messaging). A SIM card has some, too.
abbrev pub interindustry_brings_none : List ℕ
interindustry_brings_none = 0x04 ∷ 0x0C ∷ 0x0E ∷ 0x0F ∷ 0x20 ∷ 0x21 ∷ 0x22 ∷ 0x24 ∷ 0x26 ∷ 0x28
    ∷ 0x2C ∷ 0x44 ∷ 0xD0 ∷ 0xD1 ∷ 0xD2 ∷ 0xD6 ∷ 0xD7 ∷ 0xDA ∷ 0xDB ∷ 0xDC ∷ 0xDD ∷ 0xE0 ∷ 0xE2
    ∷ 0xE4 ∷ 0xE6 ∷ 0xE8 ∷ 0xFE ∷ []

abbrev pub sim_brings_none : List ℕ
sim_brings_none = 0x04 ∷ 0x10 ∷ 0x14 ∷ 0x20 ∷ 0x24 ∷ 0x26 ∷ 0x28 ∷ 0x2C ∷ 0x44 ∷ 0xD6 ∷ 0xDC
    ∷ 0xFA ∷ []

-- The way in a row of the program's table.
abbrev pub way_in : {N P : Type 0} → Option (N × Direction × P) → Option Direction
way_in None = None
way_in (Some row) = Some row.1

-- The first of two that is known.
abbrev pub or_else : Option Direction → Option Direction → Option Direction
or_else (Some way) other = Some way
or_else None other = other

abbrev pub by_standard : ℕ → ℕ → Option Direction
by_standard cla ins = or_else (own_way cla ins) (everywhere ins)

-- The way that the options give to INS in every class, or else that of the standards.
abbrev pub way_of : Ways → ℕ → ℕ → Option Direction
way_of ways cla ins = or_else (get_or ways.given ins None) (by_standard cla ins)
