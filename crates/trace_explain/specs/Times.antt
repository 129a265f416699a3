-- The time that may precede the sign of a line.
use Rattle.std.specs.Prelude.{ℕ, ◌+◌, ◌-◌, List, [], ◌∷◌, take, drop, length, Bool, true, false, ◌==◌, ◌&&◌, ◌||◌, nat_le, nat_lt, if◌then◌else◌}
use Rattle.std.specs.List.{position_or_len}

-- The place of the first such byte; the length if it is missing.
abbrev pub place_of : ℕ → List ℕ → ℕ
place_of byte line = position_or_len (λ b. b == byte) line

abbrev pub behind_spaces : List ℕ → List ℕ
behind_spaces [] = []
behind_spaces (b ∷ line) = if b == 32 then behind_spaces line else b ∷ line

abbrev pub is_digit : ℕ → Bool
is_digit b = nat_le 48 b && nat_le b 57

-- Digits, points, colons and commas; and what may be part of a zone, if there may be one.
abbrev pub is_of_time : Bool → ℕ → Bool
is_of_time has_zone b = is_digit b || (b == 46) || (b == 58) || (b == 44)
    || (has_zone && ((b == 43) || (b == 45) || (b == 90)))

abbrev pub are_of_time : Bool → List ℕ → Bool
are_of_time has_zone [] = true
are_of_time has_zone (b ∷ bytes) = is_of_time has_zone b && are_of_time has_zone bytes

-- A digit, and then such bytes.
abbrev pub is_stamp : Bool → List ℕ → Bool
is_stamp has_zone [] = false
is_stamp has_zone (b ∷ rest) = is_digit b && are_of_time has_zone rest

abbrev pub is_unit : List ℕ → Bool
is_unit [] = false
is_unit (b ∷ []) = b == 115
is_unit (b ∷ c ∷ []) = ((b == 109) || (b == 117)) && (c == 115)
is_unit (b ∷ c ∷ d ∷ rest) = false

-- The length of a time of each kind before the sign; 0 without such a time. Of a time in brackets
-- and of one after `+` the first byte precedes the rest.
abbrev pub bracket_len : List ℕ → ℕ
bracket_len rest = if nat_lt (place_of 93 rest) (length rest)
    && is_stamp false (behind_spaces (take (place_of 93 rest) rest)) then place_of 93 rest + 2
    else 0

abbrev pub unit_behind : List ℕ → List ℕ
unit_behind rest = behind_spaces (drop (place_of 32 rest) rest)

abbrev pub unit_end : List ℕ → List ℕ → ℕ
unit_end rest unit = length rest - length unit + place_of 32 unit + 1

abbrev pub shift_len : List ℕ → ℕ
shift_len rest = if is_stamp false (take (place_of 32 rest) rest)
    && is_unit (take (place_of 32 (unit_behind rest)) (unit_behind rest))
    then unit_end rest (unit_behind rest) else 0

-- A date before a time of day, with `T` or a space between: `2026-11-27`. Behind the time there may
-- be a zone.
abbrev pub is_date : List ℕ → Bool
is_date (a ∷ b ∷ c ∷ d ∷ e ∷ f ∷ g ∷ h ∷ i ∷ j ∷ k ∷ rest) = is_digit a && is_digit b && is_digit c
    && is_digit d && (e == 45) && is_digit f && is_digit g && (h == 45) && is_digit i && is_digit j
    && ((k == 84) || (k == 32))
is_date other = false

-- The same of syslog: `Nov 28 12:`.
abbrev pub is_small : ℕ → Bool
is_small b = nat_le 97 b && nat_le b 122

abbrev pub is_month : List ℕ → Bool
is_month (a ∷ b ∷ c ∷ d ∷ e ∷ f ∷ g ∷ h ∷ i ∷ j ∷ rest) = nat_le 65 a && nat_le a 90 && is_small b
    && is_small c && (d == 32) && ((e == 32) || is_digit e) && is_digit f && (g == 32)
    && is_digit h && is_digit i && (j == 58)
is_month other = false

abbrev pub dated_len : Bool → ℕ → List ℕ → ℕ
dated_len has_zone date time =
    if is_stamp has_zone (take (place_of 32 time) time) then date + place_of 32 time else 0

abbrev pub time_len : List ℕ → ℕ
time_len [] = 0
time_len (b ∷ rest) = if b == 91 then bracket_len rest
    else if b == 43 then shift_len rest
    else if is_date (b ∷ rest) then dated_len true 11 (drop 11 (b ∷ rest))
    else if is_month (b ∷ rest) then dated_len true 7 (drop 7 (b ∷ rest))
    else dated_len false 0 (b ∷ rest)

-- Labels of Python's `logging` between a time and the rest: `- WORD - `, or two words.
abbrev pub begins_dash : List ℕ → Bool
begins_dash (a ∷ b ∷ line) = (a == 45) && (b == 32)
begins_dash other = false

abbrev pub behind_word : List ℕ → List ℕ
behind_word line = drop (place_of 32 (drop 2 line) + 1) (drop 2 line)

abbrev pub is_labelled : List ℕ → Bool
is_labelled line = begins_dash line && begins_dash (behind_word line)

abbrev pub behind_next : List ℕ → List ℕ
behind_next line = if is_labelled line then behind_word line else line

-- The host and program of syslog: `host program[123]: `.
abbrev pub ends_tag : List ℕ → Bool
ends_tag (a ∷ b ∷ c ∷ line) = (a == 93) && (b == 58) && (c == 32)
ends_tag other = false

abbrev pub tag_in : List ℕ → List ℕ
tag_in line = behind_spaces (drop (place_of 32 line) line)

abbrev pub behind_tag_in : List ℕ → List ℕ → List ℕ
behind_tag_in line tag =
    if nat_lt (place_of 93 tag) (place_of 32 tag) && ends_tag (drop (place_of 93 tag) tag)
    then behind_spaces (drop (place_of 93 tag + 2) tag) else line

abbrev pub behind_tag : List ℕ → List ℕ
behind_tag line = behind_tag_in line (tag_in line)

abbrev pub behind_label : List ℕ → List ℕ
behind_label line =
    if is_labelled line then drop 2 (behind_next (behind_word line)) else behind_tag line

-- A line without the byte order mark of UTF-8 before it.
abbrev pub behind_mark : List ℕ → List ℕ
behind_mark [] = []
behind_mark (a ∷ []) = a ∷ []
behind_mark (a ∷ b ∷ []) = a ∷ b ∷ []
behind_mark (a ∷ b ∷ c ∷ line) =
    if (a == 0xEF) && (b == 0xBB) && (c == 0xBF) then line else a ∷ b ∷ c ∷ line

-- The time before a line's sign, and what follows it, its spaces and its labels.
abbrev pub time_of : List ℕ → List ℕ
time_of line = take (time_len line) line

abbrev pub behind_time_of : List ℕ → List ℕ
behind_time_of line =
    if time_len line == 0 then line else behind_label (behind_spaces (drop (time_len line) line))

abbrev pub time_in : List ℕ → List ℕ
time_in line = time_of (behind_mark line)

abbrev pub behind_time : List ℕ → List ℕ
behind_time line = behind_time_of (behind_mark line)

-- Without signs, decimal digits alone are bytes and not a time.
abbrev pub are_decimal : List ℕ → Bool
are_decimal [] = true
are_decimal (b ∷ bytes) = is_digit b && are_decimal bytes

abbrev pub behind_clock : List ℕ → List ℕ
behind_clock line = if are_decimal (time_in line) then behind_mark line else behind_time line
