-- What terminals and cards share: the header of GET RESPONSE, and a reply.
use Rattle.std.specs.Prelude.{ℕ, List, []}
use Rattle.apdu_core.specs.declared.header.Header.{Header}
use Rattle.apdu_core.specs.StatusWord.{StatusWord}

-- the header of a GET RESPONSE (ISO/IEC 7816-4, GET RESPONSE)
abbrev pub get_response : Header
get_response = record { cla = 0x00; ins = 0xC0; p1 = 0x00; p2 = 0x00 }

-- the reply to an operation
pub record Reply : Type 0 where
  pub status : StatusWord
  pub content : List ℕ

-- a reply without data
abbrev pub reply : StatusWord → Reply
reply status = record { status = status; content = [] }
