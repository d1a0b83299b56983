-- Initial lines ascend.
use Rattle.std.proofs.Common.{◌≡◌, ℕ, zero, suc, ◌+◌, ◌<◌, ◌≤◌, Bool, true, false, List, [], ◌∷◌, length, map, get_or, Result, Ok, Err, Option, Some, None, refl, sym, ap, subst, ◌∙◌, arith}
use Rattle.std.specs.Prelude.{if◌then◌else◌, nat_lt, ◌||◌}
use Rattle.std.proofs.lemmas.List.{length-map}
use Rattle.meaning.specs.declared.refusal.Broken.{Broken}
use Rattle.meaning.specs.declared.refusal.Rule.{Rule}
use Rattle.meaning.specs.declared.refusal.Rule.TheVariants.{C7}
use Rattle.meaning.specs.Answers.{at_line, member_of, members_of}
use Rattle.meaning.specs.BareText.{bare}
use Rattle.meaning.specs.Lines.{StatementLine, card, is_comment, is_initial, lines_of, statement_lines}
use Rattle.meaning.specs.Nesting.{IsProgram, nest}
use Rattle.meaning.specs.Reading.{read_shape}
use Rattle.meaning.specs.Refusals.{all_of, least, unless, with_first, ◌>>=◌}
use Rattle.meaning.specs.Statements.{Entry, Group, broken_in, continuations, entry_in, groups, is_too_long, statements_in, statements_of}
use Rattle.meaning.specs.Syntax.{ItemTree, ShapeTree}
use Rattle.meaning.specs.Trees.{Nested, flatten}
use Rattle.nesting_laws.proofs.Read.{read_nests}
use Rattle.rule_passes.specs.InOrder.{AreInOrder}
use Rattle.rule_laws.specs.Units.{Ascend, lines_in, unit_of}

further : (m n most : ℕ) (ns : List ℕ) → m ≤ n → Ascend n most ns → Ascend m most ns
further m n most [] before h = tt
further m n most (k ∷ ks) before h = let l = h.0 in (omega (arith, before, l), h.1, h.2)

-- ---- the lines of a source

statement_ascend : (line most : ℕ) (ls : List (List ℕ)) → line + length ls ≤ suc most → Ascend line most (map (λ (l : StatementLine). l.line) (statement_lines line ls))
unfolding statement_lines
statement_ascend line most [] few = tt
statement_ascend line most (l ∷ ls) few = by (is_comment (card l)) (statement_ascend (line + 1) most ls (omega (arith, few)))
  where
    by : (b : Bool) → Ascend (line + 1) most (map (λ (k : StatementLine). k.line) (statement_lines (line + 1) ls))
        → Ascend line most (map (λ (k : StatementLine). k.line) (if b then statement_lines (line + 1) ls else record { line = line; columns = card l } ∷ statement_lines (line + 1) ls))
    by true h = further line (line + 1) most (map (λ (k : StatementLine). k.line) (statement_lines (line + 1) ls)) (omega arith) h
    by false h = (omega arith, omega (arith, few), further (suc line) (line + 1) most (map (λ (k : StatementLine). k.line) (statement_lines (line + 1) ls)) (omega arith) h)

groups_ascend : (m most : ℕ) (ls : List StatementLine) → Ascend m most (map (λ (l : StatementLine). l.line) ls) → Ascend m most (map (λ (g : Group). g.initial.line) (groups ls))
unfolding groups
groups_ascend m most [] h = tt
groups_ascend m most (l ∷ ls) h = by (is_initial l.columns) (groups_ascend (suc l.line) most ls h.2)
  where
    by : (b : Bool) → Ascend (suc l.line) most (map (λ (g : Group). g.initial.line) (groups ls))
        → Ascend m most (map (λ (g : Group). g.initial.line) (if b then record { initial = l; continued = continuations ls } ∷ groups ls else groups ls))
    by true rest = (h.0, h.1, rest)
    by false rest = let first = h.0 in further m (suc l.line) most (map (λ (g : Group). g.initial.line) (groups ls)) (omega (arith, first)) rest

entry_lines : (gs : List Group) → map (λ (g : Group). g.initial.line) gs ≡ map (λ (e : Entry). e.line) (map entry_in gs)
entry_lines [] = refl
entry_lines (g ∷ gs) = ap (λ ns. g.initial.line ∷ ns) (entry_lines gs)

-- ---- statements

pub kept_by : {A : Type 0} (o : Option Broken) (x y : A) → unless o x ≡ Ok y → x ≡ y
kept_by None x y is = let same : x ≡ y = cc in same
kept_by (Some b) x y is = absurd cc

pub entries_are : (ls : List StatementLine) (es : List Entry) → statements_in ls ≡ Ok es → map entry_in (groups ls) ≡ es
unfolding statements_in
entries_are ls es is = kept_by (least (broken_in ls)) (map entry_in (groups ls)) es is

short_enough : (bytes lines : ℕ) → (nat_lt 1048576 bytes || nat_lt 65535 lines) ≡ false → lines ≤ 65535
short_enough bytes lines h = grind (arith, h)

entries_ascend : (source : List ℕ) (es : List Entry) → statements_of source ≡ Ok es → Ascend 1 65535 (map (λ (e : Entry). e.line) es)
unfolding statements_of
entries_ascend source es is = by (is_too_long source) refl is
  where
    by : (b : Bool) → is_too_long source ≡ b → (if b then Err (record { line = 1; rule = C7 }) else statements_in (statement_lines 1 (lines_of source))) ≡ Ok es → Ascend 1 65535 (map (λ (e : Entry). e.line) es)
    by true long h = absurd cc
    by false long h =
        let ls = statement_lines 1 (lines_of source) in
        let few = short_enough (length source) (length (lines_of source)) long in
        let all = groups_ascend 1 65535 ls (statement_ascend 1 65535 (lines_of source) (omega (arith, few))) in
        subst (λ xs. Ascend 1 65535 (map (λ (e : Entry). e.line) xs)) (entries_are ls es h) (subst (Ascend 1 65535) (entry_lines (groups ls)) all)

-- ---- forms

member_line : (e : Entry) (x : ItemTree) → member_of e ≡ Ok x → e.line ≡ x.line
member_line e x is = by (read_shape (bare e.text)) is
  where
    by : (r : Result ShapeTree Rule) → (at_line e.line r >>= λ s. Ok (record { line = e.line; label = e.label; shape = s })) ≡ Ok x → e.line ≡ x.line
    by (Ok s) h = let same : record { line = e.line; label = e.label; shape = s } ≡ x = cc in ap (λ (y : ItemTree). y.line) same
    by (Err rule) h = absurd cc

all_lines : (es : List Entry) (xs : List ItemTree) → all_of (map member_of es) ≡ Ok xs → map (λ (e : Entry). e.line) es ≡ map (λ (x : ItemTree). x.line) xs
all_lines [] xs is = let same : [] ≡ xs = cc in ap (map (λ (x : ItemTree). x.line)) same
all_lines (e ∷ es) xs is = by (all_lines es) (member_of e) (all_of (map member_of es)) refl refl is
  where
    by : ((ys : List ItemTree) → all_of (map member_of es) ≡ Ok ys → map (λ (d : Entry). d.line) es ≡ map (λ (x : ItemTree). x.line) ys)
        → (r : Result ItemTree Broken) (rs : Result (List ItemTree) Broken) → member_of e ≡ r → all_of (map member_of es) ≡ rs → with_first r rs ≡ Ok xs → map (λ (d : Entry). d.line) (e ∷ es) ≡ map (λ (x : ItemTree). x.line) xs
    by others (Ok y) (Ok ys) first rest h =
        let same : y ∷ ys ≡ xs = cc in
        ap (λ n. n ∷ map (λ (d : Entry). d.line) es) (member_line e y first) ∙ ap (λ ns. y.line ∷ ns) (others ys rest) ∙ ap (map (λ (x : ItemTree). x.line)) same
    by others (Ok y) (Err c) first rest h = absurd cc
    by others (Err b) (Ok ys) first rest h = absurd cc
    by others (Err b) (Err c) first rest h = absurd cc

member_lines : (es : List Entry) (xs : List ItemTree) → members_of es ≡ Ok xs → map (λ (e : Entry). e.line) es ≡ map (λ (x : ItemTree). x.line) xs
unfolding members_of
member_lines es xs is = all_lines es xs is

-- ---- program units

-- the statements that a source has, and the unit that they nest as
pub record IsUnit (source : List ℕ) (t : Nested) : Type 0 where
  pub entries : List Entry
  pub stated : statements_of source ≡ Ok entries
  pub read : members_of entries ≡ Ok (flatten t)
  pub well : IsProgram t

pub is_unit : (source : List ℕ) (t : Nested) → unit_of source ≡ Ok t → IsUnit source t
is_unit source t is = by_entries (statements_of source) refl is
  where
    by_members : (es : List Entry) → statements_of source ≡ Ok es → (r : Result (List ItemTree) Broken) → members_of es ≡ r → (r >>= λ members. nest members) ≡ Ok t → IsUnit source t
    by_members es stated (Ok xs) read nests =
        let whole = read_nests xs t nests in
        record { entries = es; stated = stated; read = read ∙ ap Ok (sym whole.order); well = whole.well }
    by_members es stated (Err b) read nests = absurd cc

    by_entries : (r : Result (List Entry) Broken) → statements_of source ≡ r → (r >>= λ entries. members_of entries >>= λ members. nest members) ≡ Ok t → IsUnit source t
    by_entries (Ok es) stated read = by_members es stated (members_of es) refl read
    by_entries (Err b) stated read = absurd cc

pub unit_ascends : (source : List ℕ) (t : Nested) → unit_of source ≡ Ok t → Ascend 1 65535 (lines_in t)
unit_ascends source t is =
    let u = is_unit source t is in
    subst (Ascend 1 65535) (member_lines u.entries (flatten t) u.read) (entries_ascend source u.entries u.stated)

-- ---- by their places

least_first : (least most : ℕ) (ns : List ℕ) (j : ℕ) → Ascend least most ns → j < length ns → least ≤ get_or ns j 0
least_first least most [] j h lt = absurd (omega arith)
least_first least most (n ∷ ns) zero h lt = h.0
least_first least most (n ∷ ns) (suc j) h lt = let e = least_first (suc n) most ns j h.2 (omega (arith, lt)) in omega (arith, e, h.0)

none_falls_back : (least most : ℕ) (ns : List ℕ) → Ascend least most ns → (i j : ℕ) → i ≤ j → j < length ns → get_or ns i 0 ≤ get_or ns j 0
none_falls_back least most [] h i j le lt = absurd (omega arith)
none_falls_back least most (n ∷ ns) h zero zero le lt = omega arith
none_falls_back least most (n ∷ ns) h zero (suc j) le lt = let e = least_first (suc n) most ns j h.2 (omega (arith, lt)) in omega (arith, e)
none_falls_back least most (n ∷ ns) h (suc i) zero le lt = absurd (omega arith)
none_falls_back least most (n ∷ ns) h (suc i) (suc j) le lt = none_falls_back (suc n) most ns h.2 i j (omega (arith, le)) (omega (arith, lt))

pub unit_in_order : (source : List ℕ) (t : Nested) → unit_of source ≡ Ok t → AreInOrder (flatten t)
unit_in_order source t is = λ i j le lt.
    none_falls_back 1 65535 (lines_in t) (unit_ascends source t is) i j le (subst (λ n. j < n) (sym (length-map (flatten t) (λ (x : ItemTree). x.line))) lt)
