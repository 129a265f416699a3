-- The first words of lines.
use Rattle.std.specs.Prelude.{ℕ, List, codes}
use Rattle.card_trace.specs.declared.script.keyword.TableWord.TheVariants.{App, Object, Locked}
use Rattle.card_trace.specs.declared.script.keyword.Keyword.{Keyword}
use Rattle.card_trace.specs.declared.script.keyword.Keyword.TheVariants.{Adds, Atr, Plan, Select, Get, Put, Send, Take, HandOut, Reset, Table}

-- the text of a keyword
abbrev pub keyword_text : Keyword → List ℕ
keyword_text (Adds App) = codes "app"
keyword_text (Adds Object) = codes "object"
keyword_text (Adds Locked) = codes "locked"
keyword_text Atr = codes "atr"
keyword_text Plan = codes "plan"
keyword_text Select = codes "select"
keyword_text Get = codes "get"
keyword_text Put = codes "put"
keyword_text Send = codes "send"
keyword_text Take = codes ">"
keyword_text HandOut = codes "<"
keyword_text Reset = codes "reset"
keyword_text Table = codes "table"
