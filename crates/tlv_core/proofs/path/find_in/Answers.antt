-- Each step of the loop is one step of the reader that looks for a path.
use Rattle.std.proofs.Common.{◌≡◌, ◌<◌, ◌==◌, ℕ, List, [], ◌∷◌, length, false, arith, refl, sym, ◌∙◌, length-set}
use Rattle.tlv_core.proofs.SameTag.{tags_same, tags_differ}
use Rattle.tlv_core.proofs.Outers.{count_is, one_more, last_left, none_left}
use Rattle.tlv_core.proofs.Seeking.{faces, stands_at_start, stands_past_zero, stands_elsewhere, stands_past_primitive, stands_in_template, stands_behind, found, none_at_end, starts_there, is_object}
use Rattle.tlv_core.proofs.path.find_in.Goals as goal

not_empty : (path : List (List ℕ)) → false ≡ (length path == 0) → 0 < length path
not_empty [] e = absurd cc
not_empty (tag ∷ path) e = omega arith

pub seeking-init : goal.seeking-init
seeking-init c = record {
  cells = refl;
  few = omega arith;
  stands = stands_at_start [] _ _ refl
      (not_empty _ c.if-is_empty.ensures) c.requires;
}

pub returns-then-open-eq0 : goal.returns-then-open-eq0
returns-then-open-eq0 c = none_at_end _ _ _ _ _
    (none_left c.seeking.ends c.seeking.open c.if-open-eq0.true) c.if-place-end.true
    c.seeking.invariant.stands

pub seeking-preserved-then-place-end : goal.seeking-preserved-then-place-end
seeking-preserved-then-place-end c = record {
  cells = c.seeking.invariant.cells;
  few = omega arith;
  stands = stands_behind _ _ _ _ _ _ _ (last_left c.seeking.ends c.seeking.open c.if-open-eq0.false)
      c.if-place-end.true c.seeking.invariant.stands;
}

pub seeking-preserved-then-bytes-place-eq0 : goal.seeking-preserved-then-bytes-place-eq0
seeking-preserved-then-bytes-place-eq0 c = record {
  cells = c.seeking.invariant.cells;
  few = c.seeking.invariant.few;
  stands = stands_past_zero _ _ _ _ _ (omega arith) c.if-bytes-place-eq0.true
      c.seeking.invariant.stands;
}

pub front_object-object-requires : goal.front_object-object-requires
front_object-object-requires c =
    (starts_there _ _ _ _ _ _ (sym (count_is c.seeking.ends c.seeking.open))
    (omega arith) c.if-bytes-place-eq0.false c.seeking.invariant.stands).0

pub seeking-preserved-then-ne : goal.seeking-preserved-then-ne
seeking-preserved-then-ne c = record {
  cells = c.seeking.invariant.cells;
  few = c.seeking.invariant.few;
  stands = stands_elsewhere _ _ _ _ _ _ _ _ _ _
      (faces _ _ _ _ _ _ _ _ _ _ _ (sym (count_is c.seeking.ends c.seeking.open))
      c.index-path-open.is c.front_object-object.ensures c.seeking.invariant.stands)
      (tags_differ _ _ c.if-ne.ensures);
}

pub at_level-requires : goal.at_level-requires
at_level-requires c =
    is_object _ _ _ _ _ _ _ _ _ _ (sym (count_is c.seeking.ends c.seeking.open))
    (starts_there _ _ _ _ _ _ (sym (count_is c.seeking.ends c.seeking.open))
    (omega arith) c.if-bytes-place-eq0.false c.seeking.invariant.stands).1
    c.front_object-object.ensures c.seeking.invariant.stands

pub returns-then-open-path : goal.returns-then-open-path
returns-then-open-path c =
    found _ _ _ _ _ _ _ _ _ _ _ _ (sym (count_is c.seeking.ends c.seeking.open))
    (faces _ _ _ _ _ _ _ _ _ _ _ (sym (count_is c.seeking.ends c.seeking.open)) c.index-path-open.is
    c.front_object-object.ensures c.seeking.invariant.stands)
    (tags_same _ _ c.if-ne.ensures) c.if-open-path.true c.at_level.ensures

pub seeking-preserved-then-is_constructed : goal.seeking-preserved-then-is_constructed
seeking-preserved-then-is_constructed c = record {
  cells = length-set c.seeking.ends c.seeking.open c.seeking.end ∙ c.seeking.invariant.cells;
  few = (starts_there _ _ _ _ _ _ (sym (count_is c.seeking.ends c.seeking.open))
      (omega arith) c.if-bytes-place-eq0.false c.seeking.invariant.stands).1;
  stands = stands_in_template _ _ _ _ _ _ _ _ _ _ _ _
      (one_more c.seeking.ends c.seeking.open c.seeking.end
      (omega (
        arith,
        c.seeking.invariant.cells,
        (starts_there _ _ _ _ _ _ (sym (count_is c.seeking.ends c.seeking.open))
            (omega arith) c.if-bytes-place-eq0.false c.seeking.invariant.stands).1,
      )))
      (sym (count_is c.seeking.ends c.seeking.open))
      (starts_there _ _ _ _ _ _ (sym (count_is c.seeking.ends c.seeking.open))
      (omega arith) c.if-bytes-place-eq0.false c.seeking.invariant.stands).1
      (faces _ _ _ _ _ _ _ _ _ _ _ (sym (count_is c.seeking.ends c.seeking.open))
      c.index-path-open.is c.front_object-object.ensures c.seeking.invariant.stands)
      (tags_same _ _ c.if-ne.ensures) c.if-open-path.false (sym c.if-is_constructed.ensures);
}

pub seeking-preserved : goal.seeking-preserved
seeking-preserved c = record {
  cells = c.seeking.invariant.cells;
  few = c.seeking.invariant.few;
  stands = stands_past_primitive _ _ _ _ _ _ _ _ _ _ _
      (sym (count_is c.seeking.ends c.seeking.open))
      (faces _ _ _ _ _ _ _ _ _ _ _ (sym (count_is c.seeking.ends c.seeking.open))
      c.index-path-open.is c.front_object-object.ensures c.seeking.invariant.stands)
      (tags_same _ _ c.if-ne.ensures) c.if-open-path.false (sym c.if-is_constructed.ensures);
}

pub bounds-path-open : goal.bounds-path-open
bounds-path-open c =
    omega (arith, count_is c.seeking.ends c.seeking.open, c.seeking.invariant.stands.on_path)

pub bounds-ends-open-then-is_constructed : goal.bounds-ends-open-then-is_constructed
bounds-ends-open-then-is_constructed c =
    omega (
      arith,
      c.seeking.invariant.cells,
      (starts_there _ _ _ _ _ _ (sym (count_is c.seeking.ends c.seeking.open))
          (omega arith) c.if-bytes-place-eq0.false c.seeking.invariant.stands).1,
    )
