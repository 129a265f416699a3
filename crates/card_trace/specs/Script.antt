-- Scripts of `play` and `card`: what their lines say and do, and what is written.
use Rattle.std.specs.Prelude.{◌≡◌, ◌≢◌, ◌⊎◌, ℕ, List, [], ◌∷◌, ◌++◌, Option, IfSome}
use Rattle.std.specs.Str.Lines.{lines}
use Rattle.std.specs.Io.KnownBytes.{Appends}
use Rattle.card_trace.specs.declared.script.keyword.Keyword.{Keyword}
use Rattle.card_trace.specs.declared.script.reason.LineReason.{LineReason}
use Rattle.card_trace.specs.declared.script.reason.LineReason.TheVariants.{UnknownWord, LateTableLine}
use Rattle.card_trace.specs.declared.script.section.Section.{Section}
use Rattle.card_trace.specs.declared.script.section.Section.TheVariants as sections
use Rattle.card_trace.specs.ScriptKeywords.{keyword_text}
use Rattle.card_trace.specs.ScriptWords.{words_of}

-- A kind of script. Table lines add parts to a table. The first run line makes a card from it, and
-- run lines carry out acts on the card.
pub record Script : Type 1 where
  pub Part : Type 0
  pub Act : Type 0
  pub Table : Type 0
  pub Card : Type 0
  -- the keyword and the fields of a line that says this
  pub SaysPart : Part → Keyword → List (List ℕ) → Type 0
  pub SaysAct : Act → Keyword → List (List ℕ) → Type 0
  -- why a keyword and fields say nothing in this section
  pub Denies : Section → Keyword → List (List ℕ) → LineReason → Type 0
  -- the empty table, a table with one more part, and why a part is refused
  pub empty : Table
  pub Adds : Table → Part → Table → Type 0
  pub Refuses : Table → Part → LineReason → Type 0
  -- the card of a table, and what an act prints and does
  pub Begins : Table → Card → Type 0
  pub Does : Card → Act → List ℕ → Card → Type 0

-- what a line says
pub data Meaning (s : Script) : Type 0 where
  Builds : (part : s.Part) → Meaning s
  Runs : (act : s.Act) → Meaning s

-- Before the first run line there is a table, and after it a card.
pub data State (s : Script) : Type 0 where
  Building : (table : s.Table) → State s
  Running : (card : s.Card) → State s

abbrev pub section_of : (s : Script) → State s → Section
section_of s (Building table) = sections.Building
section_of s (Running card) = sections.Running

-- In this section a keyword and fields say this. After the first run line there is no table line.
abbrev pub SaysBy : (s : Script) → Section → Keyword → List (List ℕ) → Meaning s → Type 0
SaysBy s section keyword fields (Builds part) =
    (section ≡ sections.Building) × s.SaysPart part keyword fields
SaysBy s section keyword fields (Runs act) = s.SaysAct act keyword fields

-- the same for words: the keyword's text, and the fields
abbrev pub Says : (s : Script) → Section → List (List ℕ) → Meaning s → Type 0
Says s section words meaning = (keyword : Keyword) × (fields : List (List ℕ))
    × (words ≡ keyword_text keyword ∷ fields) × SaysBy s section keyword fields meaning

-- the line has words, but they say nothing in this section
abbrev pub SaysNothing : (s : Script) → Section → List ℕ → Type 0
SaysNothing s section line =
    (words_of line ≢ []) × ((meaning : Meaning s) → ¬ Says s section (words_of line) meaning)

-- The reason if the keyword is that of a table line: after the first run line it is too late.
abbrev pub InTable : Section → (LineReason → Type 0) → LineReason → Type 0
InTable sections.Building P reason = P reason
InTable sections.Running P reason = reason ≡ LateTableLine

-- why words say nothing in this section: the first is no keyword, or those behind it are wrong
abbrev pub DeniesWords : (s : Script) → Section → List (List ℕ) → LineReason → Type 0
DeniesWords s section words reason = (first : List ℕ) × (fields : List (List ℕ))
    × (words ≡ first ∷ fields)
    × ((((keyword : Keyword) → first ≢ keyword_text keyword) × (reason ≡ UnknownWord))
    ⊎ ((keyword : Keyword) × (first ≡ keyword_text keyword)
    × s.Denies section keyword fields reason))

-- the card on which a run line is carried out; the first run line makes it from the table
abbrev pub RunsOn : (s : Script) → State s → s.Card → Type 0
RunsOn s (Building table) card = s.Begins table card
RunsOn s (Running now) card = card ≡ now

-- what a line says is carried out, and prints this text
abbrev pub DoesMeaning : (s : Script) → State s → Meaning s → List ℕ → State s → Type 0
DoesMeaning s (Building table) (Builds part) text new =
    (text ≡ []) × (after : s.Table) × s.Adds table part after × (new ≡ Building after)
DoesMeaning s (Running card) (Builds part) text new = ⊥
DoesMeaning s old (Runs act) text new =
    (card next : s.Card) × RunsOn s old card × s.Does card act text next × (new ≡ Running next)

-- what a line says is refused for this reason
abbrev pub RefusesMeaning : (s : Script) → State s → Meaning s → LineReason → Type 0
RefusesMeaning s (Building table) (Builds part) reason = s.Refuses table part reason
RefusesMeaning s state meaning reason = ⊥

-- the line says something that is carried out, or it has no words and is passed over
abbrev pub DoesLine : (s : Script) → State s → List ℕ → List ℕ → State s → Type 0
DoesLine s old line text new =
    ((words_of line ≡ []) × (text ≡ []) × (new ≡ old))
    ⊎ ((meaning : Meaning s) × Says s (section_of s old) (words_of line) meaning
    × DoesMeaning s old meaning text new)

-- A line is refused for this reason: its words say nothing in this section, or what they say is
-- refused.
abbrev pub RefusesLine : (s : Script) → State s → List ℕ → LineReason → Type 0
RefusesLine s state line reason = (SaysNothing s (section_of s state) line
    × DeniesWords s (section_of s state) (words_of line) reason)
    ⊎ ((meaning : Meaning s) × Says s (section_of s state) (words_of line) meaning
    × RefusesMeaning s state meaning reason)

-- lines in order
abbrev pub DoesAll : (s : Script) → State s → List (List ℕ) → List ℕ → State s → Type 0
DoesAll s old [] text new = (text ≡ []) × (new ≡ old)
DoesAll s old (line ∷ others) text new =
    (first rest : List ℕ) × (mid : State s) × DoesLine s old line first mid
    × (text ≡ first ++ rest) × DoesAll s mid others rest new

-- what is written for a script whose bytes are known
abbrev pub ScriptWrites : Script → Option (List ℕ) → Option (List ℕ) → Option (List ℕ) → Type 0
ScriptWrites s script old new = (text : List ℕ) × Appends old new text
    × IfSome script (λ bytes. (end : State s) × DoesAll s (Building s.empty) (lines bytes) text end)
