use Rattle.std.proofs.Common.{◌≡◌, length, ap, arith, refl}
use Rattle.object_card.proofs.Responses.{both_copied, length-both}
use Rattle.object_card.proofs.response.Response.new.Goals as goal

pub returns : goal.returns
returns c =
    let first : length c.copy_from_slice.new.self ≡ length c.args.first.now =
    ap length c.copy_from_slice.ensures.after in
    let second : length c.copy_from_slice-2.new.self ≡ length c.args.second.now =
    ap length c.copy_from_slice-2.ensures.after in
    record {
      front_is = both_copied _ _ _ _ _ _ _ c.copy_from_slice.ensures.after
          c.copy_from_slice-2.ensures.after first (omega arith);
      value_is = refl;
      unsent = refl;
      room = length-both _ _ _ _ _ refl first (omega arith) c.requires;
      within = c.requires;
    }
