-- The view of `Answers`: a list of answers with room for more.
use Rattle.std.specs.Prelude.{ℕ, List}
use Rattle.apdu_core.specs.Shared.{Reply}

-- the answers, in order, and the number of further answers that there is room for
pub record AnswerList : Type 0 where
  pub given : List Reply
  pub room : ℕ
