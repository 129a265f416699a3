use Rattle.std.proofs.Common.{◌≡◌, ◌∙◌, ◌++◌, sym, ap, subst, List, ℕ, length, Option, None, arith, ◌≤◌}
use Rattle.std.specs.Prelude.{option_map, IfSome}
use Rattle.apdu_core.specs.Chaining.{ChainState, added}
use Rattle.object_card.specs.declared.ready.Ready.TheVariants as ready
use Rattle.object_card.specs.CardView.{chain_before}
use Rattle.object_card.specs.PutData.{CanPut, IsPut, TakesPut}
use Rattle.object_card.proofs.PutDataLemmas as lemmas
use Rattle.object_card.proofs.command_data.take_put.Goals as goal

pub join-requires-clause-accepts : goal.join-requires-clause-accepts
join-requires-clause-accepts g c =
    lemmas.accepts_put c.args.applications.now c.args.selected c.args.chain.now c.args.response
    c.args.header c.args.cut c.args.content.now c.requires.standing
    c.pending_len-before.ensures.chain c.requires.asked c.requires.put

pub join-requires-clause-room : goal.join-requires-clause-room
join-requires-clause-room g c = omega (
  arith,
  c.requires.standing.limit_is,
  lemmas.joins_room c.args.applications.now c.args.selected c.args.chain.now c.args.response
      c.args.header c.args.cut c.args.content.now c.requires.standing
      c.pending_len-before.ensures.chain c.requires.asked c.requires.put,
)

pub returns-then-is_piece : goal.returns-then-is_piece
returns-then-is_piece g c =
    let Chain : ChainState → Type 0 = λ x. TakesPut c.args.applications.now
    c.args.applications.now c.args.selected c.args.chain.now x c.args.response c.args.header
    c.args.cut c.args.content.now c.status.result (ready.Joins c.pending_len-before.result) None in
    let Before : Option ℕ → Type 0 = λ before. TakesPut c.args.applications.now
    c.args.applications.now c.args.selected c.args.chain.now
    (added c.args.chain.now c.args.header c.args.content.now) c.args.response c.args.header
    c.args.cut c.args.content.now c.status.result (ready.Joins before) None in
    subst Chain (sym c.join.ensures) (
    subst Before (sym c.pending_len-before.ensures.len)
    (lemmas.piece_is_taken c.args.applications.now c.args.selected c.args.chain.now
    c.args.response c.args.header c.args.cut c.args.content.now c.requires.standing
    c.pending_len-before.ensures.chain c.requires.asked c.requires.put c.status.result
    (c.is_piece.ensures.piece c.if-is_piece.true) c.status.ensures)
    )

pub unwrap-requires : goal.unwrap-requires
unwrap-requires g c =
    lemmas.selected_there c.args.applications.now c.args.selected c.args.chain.now c.args.response
    c.args.header c.args.cut c.args.content.now c.requires.standing
    c.pending_len-before.ensures.chain c.requires.asked c.requires.put

pub put_value-taken-requires-clause-can : goal.put_value-taken-requires-clause-can
put_value-taken-requires-clause-can g c =
    let Can : List ℕ → Type 0 = λ bytes. CanPut c.args.applications.now c.unwrap.result
    c.args.header bytes in
    subst Can (ap (λ x. x.bytes) (sym c.join.ensures) ∙ sym c.bytes.ensures.value)
    (lemmas.can_put c.args.applications.now c.args.selected c.args.chain.now c.args.response
    c.args.header c.args.cut c.args.content.now c.requires.standing
    c.pending_len-before.ensures.chain c.requires.asked c.requires.put c.unwrap.result
    c.unwrap.ensures)

pub restore-requires : goal.restore-requires
restore-requires g c =
    let Before : Option ℕ → Type 0 = λ v. IfSome v
    (λ len. len ≤ length (c.args.chain.now.bytes ++ c.args.content.now)) in
    let Bytes : ChainState → Type 0 = λ x. IfSome c.pending_len-before.result
    (λ len. len ≤ length x.bytes) in
    subst Bytes (sym c.join.ensures)
    (subst Before (sym c.pending_len-before.ensures.len)
    (lemmas.before_fits c.args.chain.now c.args.content.now))

pub returns : goal.returns
returns g c =
    let back : c.restore.new.chain ≡ c.args.chain.now = c.restore.ensures
    ∙ ap (λ x. chain_before x c.pending_len-before.result) c.join.ensures
    ∙ ap (chain_before (added c.args.chain.now c.args.header c.args.content.now))
    c.pending_len-before.ensures.len
    ∙ lemmas.undone_put c.args.applications.now c.args.selected c.args.chain.now c.args.response
    c.args.header c.args.cut c.args.content.now c.requires.standing
    c.pending_len-before.ensures.chain c.requires.asked c.requires.put in
    let put = option_map (λ p. (p.tag, p.value.items)) c.put_value-taken.result.put in
    let Put : List ℕ → Type 0 = λ bytes. IsPut c.args.applications.now c.unwrap.result
    c.args.header bytes c.put_value-taken.new.applications c.put_value-taken.result.status
    c.put_value-taken.result.ready put in
    let Takes : ChainState → Type 0 = λ x. TakesPut c.args.applications.now
    c.put_value-taken.new.applications c.args.selected c.args.chain.now x c.args.response
    c.args.header c.args.cut c.args.content.now c.put_value-taken.result.status
    c.put_value-taken.result.ready put in
    subst Takes (sym back)
    (lemmas.last_is_taken c.args.applications.now c.args.selected c.args.chain.now c.args.response
    c.args.header c.args.cut c.args.content.now c.requires.standing
    c.pending_len-before.ensures.chain c.requires.asked c.requires.put c.unwrap.result
    c.put_value-taken.new.applications c.put_value-taken.result.status
    c.put_value-taken.result.ready put c.unwrap.ensures
    (c.is_piece.ensures.last c.if-is_piece.false)
    (subst Put (c.bytes.ensures.value ∙ ap (λ x. x.bytes) c.join.ensures)
    c.put_value-taken.ensures))
