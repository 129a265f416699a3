-- Boxes that are added after others.
use Rattle.std.proofs.Common.{◌≡◌, ℕ, List, [], ◌∷◌, ◌++◌, ◌∙◌, ap, append-nil, append_assoc, Bool, true, false, if◌then◌else◌, Option, Result, Ok, Err, IfErr, length, ◌==◌, refl, subst, sym}
use Rattle.std.proofs.lemmas.List.{map-append}
use Rattle.std.specs.Result.{is_err}
use Rattle.std.proofs.KnownBytes.{Appends-trans}
use Rattle.std.specs.Io.KnownBytes.{Appends}
use Rattle.std.specs.String.{string_bytes}
use Rattle.trace_explain.specs.declared.explainer.Explainer.{Explainer}
use Rattle.trace_explain.specs.declared.write.layout.Layout.{Layout}
use Rattle.trace_explain.specs.declared.write.layout.Medium.{Medium}
use Rattle.trace_explain.specs.declared.describe.mask.Mask.{Mask}
use Rattle.trace_explain.specs.declared.write.sheet.Sheet.{Sheet}
use Rattle.trace_explain.specs.Account.{Account, AddsBox, AddsBoxes, AddsText, AreBoxes, Boxed, HasWritten, InTurn, Manner, Out, Shows, ShowsReports, Writes, WritesOut, WritesReports, account_of, first_out, manner_of, number_after, out_with, reports_in, writing}
use Rattle.trace_explain.specs.Boxes.{PutsBox}
use Rattle.trace_explain.specs.Noted.{as_ended, bared, ended_by, is_bare}
use Rattle.trace_explain.specs.Sheets.{Joins}
use Rattle.trace_explain.specs.Reports.{Report, one_more, report_of}
use Rattle.trace_explain.specs.Trace.{HasLeft}
use Rattle.trace_explain.specs.Words.{IsWords}
use Rattle.trace_explain.proofs.SheetLemmas.{adds_nothing, words_both}

are_both : (w : Manner) (n : ℕ) (xs ys : List Boxed) → AreBoxes w n xs
    → AreBoxes w (number_after n xs) ys → AreBoxes w n (xs ++ ys)
are_both w n [] ys h k = k
are_both w n (x ∷ xs) ys (is, h) k = (is, are_both w (one_more n) xs ys h k)

number_both : (n : ℕ) (xs ys : List Boxed)
    → number_after n (xs ++ ys) ≡ number_after (number_after n xs) ys
number_both n [] ys = refl
number_both n (x ∷ xs) ys = number_both (one_more n) xs ys

-- more words before
ahead : (m : Medium) (boxes : List Boxed) (text more : List ℕ) → IsWords m more
    → InTurn m boxes text → InTurn m boxes (more ++ text)
ahead m [] text more w h = words_both m more text w h
ahead m (b ∷ boxes) text more w (before, rest, is, words, h) = (
  more ++ before,
  rest,
  ap (λ t. more ++ t) is ∙ sym (append_assoc more before (b.text ++ rest)),
  words_both m more before w words,
  h,
)

in_turn_both : (m : Medium) (xs ys : List Boxed) (x y : List ℕ) → InTurn m xs x → InTurn m ys y
    → InTurn m (xs ++ ys) (x ++ y)
in_turn_both m [] ys x y h k = ahead m ys y x h k
in_turn_both m (b ∷ xs) ys x y (before, rest, is, words, h) k = (
  before,
  rest ++ y,
  ap (λ t. t ++ y) is ∙ append_assoc before (b.text ++ rest) y
      ∙ ap (λ t. before ++ t) (append_assoc b.text rest y),
  words,
  in_turn_both m xs ys rest y h k,
)

shows_both : (w : Manner) (n k l : ℕ) (ts us : List Report) (x y : List ℕ)
    → ShowsReports w n ts x k → ShowsReports w k us y l → ShowsReports w n (ts ++ us) (x ++ y) l
shows_both w n k l ts us x y h i =
    let P : ℕ → Type 0 = λ z. AreBoxes w z i.boxes in
    record {
      boxes = h.boxes ++ i.boxes;
      are = are_both w n h.boxes i.boxes h.are (subst P h.after_is i.are);
      reports_are = ap (λ t. t ++ us) h.reports_are
          ∙ ap (λ t. reports_in h.boxes ++ t) i.reports_are
          ∙ sym (map-append (λ (b : Boxed). b.report) h.boxes i.boxes);
      after_is = i.after_is ∙ ap (λ z. number_after z i.boxes) h.after_is
          ∙ sym (number_both n h.boxes i.boxes);
      has = in_turn_both w.layout.medium h.boxes i.boxes x y h.has i.has;
    }

same_manner : (a b : Account) → b.keeps ≡ a.keeps → b.mask ≡ a.mask
    → b.sheet.layout ≡ a.sheet.layout → manner_of b ≡ manner_of a
same_manner a b keeps mask layout =
    let of : Bool → Mask → Layout → Manner =
    λ k m l. record { keeps = k; mask = m; layout = l } in
    ap (λ k. of k b.mask b.sheet.layout) keeps ∙ ap (λ m. of a.keeps m b.sheet.layout) mask
    ∙ ap (λ l. of a.keeps a.mask l) layout

-- boxes after boxes
pub boxes_both : {ts us : List Report} {a b c : Account} → Shows ts a b → Shows us b c
    → Shows (ts ++ us) a c
boxes_both {ts} {us} {a} {b} {c} h k = record {
  manner = k.manner ∙ h.manner;
  adds = λ writes w.
      let P : Manner → Type 0 = λ m. Writes m → AddsText m b.number us c.number b.sheet c.sheet in
      let next = subst P h.manner (λ x. k.adds x w) writes in
      let first = h.adds writes next.whole in
      record {
        whole = first.whole;
        more = first.more ++ next.more;
        text_is = next.text_is ∙ ap (λ t. t ++ next.more) first.text_is
            ∙ append_assoc (string_bytes a.sheet.text) first.more next.more;
        shows = shows_both (manner_of a) a.number b.number c.number ts us first.more next.more
            first.shows next.shows;
      };
}

-- words alone
pub boxes_none : {a b : Account} → b.keeps ≡ a.keeps → b.mask ≡ a.mask → b.number ≡ a.number
    → Joins a.sheet b.sheet → Shows [] a b
boxes_none {a} {b} keeps mask number (more, words, joins) = record {
  manner = same_manner a b keeps mask joins.layout;
  adds = λ writes w. record {
    whole = joins.whole w;
    more = more;
    text_is = joins.text w;
    shows = record { boxes = []; are = tt; reports_are = refl; after_is = number; has = words };
  };
}

pub boxes_stay : {a : Account} → Shows [] a a
boxes_stay {a} = boxes_none {a = a} {b = a} refl refl refl
    ([], ([], refl), adds_nothing)

pub none_written : (layout : Layout) (mask : Mask) (e : Explainer) → e.reading.of_tpdus ≡ false
    → manner_of (account_of e.teller) ≡ writing layout mask → e.teller.story.number ≡ 0
    → string_bytes e.teller.output.sheet.text ≡ [] → HasWritten (first_out layout mask) [] e
none_written layout mask e hears manner number text = record {
  hears = hears;
  manner = manner;
  shows = λ writes whole. record {
    boxes = [];
    are = tt;
    reports_are = refl;
    after_is = number;
    has = ([], text);
  };
}

-- one box, after it was counted
pub boxes_one : (t : Report) (number n : ℕ) {a c : Account} → n ≡ one_more a.number
    → number ≡ n → AddsBox number t (record a { number = n }) c → Shows (t ∷ []) a c
boxes_one t number n {a} {c} counted number_is h = record {
  manner = h.manner;
  adds = λ writes w.
      let P : ℕ → Type 0 = λ k. PutsBox a.mask k t a.sheet c.sheet in
      let (more, (before, rest, is, words, (text, none, rest_is, is_box, none_is)), adds) =
      subst P (number_is ∙ counted) (h.box writes) in
      let one : Boxed = record { report = t; text = text } in
      record {
        whole = adds.whole w;
        more = more;
        text_is = adds.text w;
        shows = record {
          boxes = one ∷ [];
          are = (is_box, tt);
          reports_are = refl;
          after_is = h.counted ∙ counted;
          has = (before, none, is ∙ ap (λ t. before ++ t) rest_is, words, ([], none_is));
        };
      };
}

-- words after boxes
pub boxes_words : {ts : List Report} {a b c : Account} → Shows ts a b → c.keeps ≡ b.keeps
    → c.mask ≡ b.mask → c.number ≡ b.number → Joins b.sheet c.sheet → Shows ts a c
boxes_words {ts} {a} {b} {c} h keeps mask number joins =
    let P : List Report → Type 0 = λ x. Shows x a c in
    subst P (append-nil ts) (boxes_both h (boxes_none {a = b} {b = c} keeps mask number joins))

-- boxes after the output stayed the same
pub boxes_from : {ts : List Report} {a b c : Account} → b ≡ a → Shows ts b c → Shows ts a c
boxes_from {ts} {c = c} same h = let P : Account → Type 0 = λ x. Shows ts x c in subst P same h

-- and before it does
pub boxes_to : {ts : List Report} {a b c : Account} → Shows ts a b → c ≡ b → Shows ts a c
boxes_to {ts} {a} h same = let P : Account → Type 0 = λ x. Shows ts a x in subst P (sym same) h

-- a TPDU that ended has a box, unless it is empty
same_header : (t : Report) (v : Bool) → length (if v then bared t else t).header ≡ length t.header
same_header t true = refl
same_header t false = refl

pub ended_is : (t p : Report) (none : Bool) → p ≡ as_ended t → (length p.header == 0) ≡ none
    → ended_by t ≡ (if none then [] else p ∷ [])
ended_is t p none p_is header =
    let same : length p.header ≡ length t.header =
    ap (λ (x : Report). length x.header) p_is ∙ same_header t (is_bare t) in
    ap (λ n. if n == 0 then [] else as_ended t ∷ []) (sym same)
    ∙ ap (λ v. if v then [] else as_ended t ∷ []) header
    ∙ ap (λ x. if none then [] else x ∷ []) (sym p_is)

pub boxes_as : {ts us : List Report} {a b : Account} → ts ≡ us → Shows ts a b → Shows us a b
boxes_as {a = a} {b = b} e h = let P : List Report → Type 0 = λ x. Shows x a b in subst P e h

-- if memory ran out, any boxes are shown
pub boxes_cut : {T E : Type 0} {ts : List Report} {a b : Account} (r : Result T E)
    → b.keeps ≡ a.keeps → b.mask ≡ a.mask → Joins a.sheet b.sheet → is_err r ≡ true
    → IfErr r (λ _. b.sheet.is_cut ≡ true) → Shows ts a b
boxes_cut (Ok x) keeps mask joins failed h = absurd (let no : false ≡ true = failed in cc)
boxes_cut {a = a} {b = b} (Err e) keeps mask joins failed h = record {
  manner = same_manner a b keeps mask joins.2.layout;
  adds = λ writes w. absurd (let no : false ≡ true = sym w ∙ h in cc);
}

-- more is written
pub written_more : (front : Out) (ts us : List Report) (a b : Explainer)
    → b.reading.of_tpdus ≡ false → HasWritten front ts a → AddsBoxes us a.teller b.teller
    → HasWritten front (ts ++ us) b
written_more front ts us a b hears h k = record {
  hears = hears;
  manner = k.manner ∙ h.manner;
  shows = λ writes w.
      let old = account_of a.teller in
      let new = account_of b.teller in
      let text : List ℕ = string_bytes old.sheet.text in
      let P : Manner → Type 0 = λ m. Writes m
      → AddsText m old.number us new.number old.sheet new.sheet in
      let next = subst P h.manner (λ x. k.adds x w) writes in
      let Q : List ℕ → Type 0 = λ x. ShowsReports front.manner 0 (ts ++ us) x new.number in
      subst Q (append_assoc front.text text next.more
      ∙ ap (λ x. front.text ++ x) (sym next.text_is))
      (shows_both front.manner 0 old.number new.number ts us (front.text ++ text) next.more
      (h.shows writes next.whole) next.shows);
}

-- and a writer gets it
pub written_out : (front : Out) (ts : List Report) (a : Explainer) (s : Sheet)
    → WritesOut a.teller.output.sheet s → HasWritten front ts a
    → HasWritten (out_with front (string_bytes a.teller.output.sheet.text)) ts
    (record a { teller = record a.teller { output = record a.teller.output { sheet = s } } })
written_out front ts a s k h =
    let old = account_of a.teller in
    record {
      hears = h.hears;
      manner = same_manner old (record old { sheet = s }) refl refl k.layout ∙ h.manner;
      shows = λ writes w.
          let text : List ℕ = front.text ++ string_bytes old.sheet.text in
          let P : List ℕ → Type 0 = λ x. ShowsReports front.manner 0 ts x old.number in
          subst P (sym (append-nil text) ∙ ap (λ x. text ++ x) (sym k.text))
          (h.shows writes (sym k.is_cut ∙ w));
    }

-- at the end of a trace
pub writes_reports : (front : Out) (all : List Report) (t : Report) (layout : Layout) (mask : Mask)
    (old mid new : Option (List ℕ)) (a b : Explainer) → front.manner ≡ writing layout mask
    → Appends old mid front.text → Appends mid new (string_bytes b.teller.output.sheet.text)
    → HasLeft front a all t
    → (a.reading.of_tpdus ≡ false
    → AddsBoxes (ended_by (report_of a.listener.under_way)) a.teller b.teller)
    → b.teller.output.sheet.is_cut ≡ false → b.reading.of_tpdus ≡ a.reading.of_tpdus
    → WritesReports layout mask old new all t
writes_reports front all t layout mask old mid new a b manner_is first next h adds whole reads =
    λ boxes.
    let hears = h.written.hears in
    let last = written_more front h.reports (ended_by (report_of a.listener.under_way)) a b
    (reads ∙ hears) h.written (adds hears) in
    let text : List ℕ = front.text ++ string_bytes b.teller.output.sheet.text in
    let n : ℕ = b.teller.story.number in
    let P : Manner → Type 0 = λ m. Writes m
    → ShowsReports m 0 (h.reports ++ ended_by (report_of a.listener.under_way)) text n in
    let Q : List Report → Type 0 = λ ts. ShowsReports (writing layout mask) 0 ts text n in (
      text,
      n,
      Appends-trans old mid new front.text (string_bytes b.teller.output.sheet.text) first next,
      subst Q (sym h.all_are) (subst P manner_is (λ x. last.shows x whole) (refl, boxes)),
    )
