-- Statements are well formed and short.
use Rattle.std.proofs.Common.{◌≡◌, ◌≤◌, ℕ, ◌+◌, ◌-◌, ◌*◌, Bool, true, false, cond, List, [], ◌∷◌, ◌++◌, length, length-append, length-drop, length-take, map, drop, replicate, Result, Ok, Err, Option, Some, None, refl, sym, ap, subst, ◌∙◌, arith}
use Rattle.std.specs.Prelude.{if◌then◌else◌, nat_lt, not, ◌==◌, flat_map}
use Rattle.std.specs.List.{AllByRecursion}
use Rattle.std.proofs.lemmas.List.Sums.{take_while-cons}
use Rattle.meaning.specs.declared.refusal.Broken.{Broken}
use Rattle.meaning.specs.declared.refusal.Rule.{Rule}
use Rattle.meaning.specs.declared.refusal.Rule.TheVariants.{C7, G1, G2, G3}
use Rattle.meaning.specs.Answers.{at_line, member_of, members_of}
use Rattle.meaning.specs.BareText.{bare, bare_behind, kept}
use Rattle.meaning.specs.Characters.{apostrophe, blank, raised}
use Rattle.meaning.specs.Lines.{StatementLine, card, is_comment, is_initial, lines_of, statement_field, statement_lines}
use Rattle.meaning.specs.Reading.{either, is_left_out, most_open, read_shape, shape_of}
use Rattle.meaning.specs.Refusals.{all_of, least, unless, with_first, ◌>>=◌}
use Rattle.meaning.specs.Spelling.{Reads}
use Rattle.meaning.specs.Statements.{Entry, Group, broken_alone, broken_in, broken_in_group, broken_in_line, broken_past, continuations, entry_in, groups, is_too_long, lines_in, statements_in, statements_of, text_of}
use Rattle.meaning.specs.Syntax.{ItemTree, ShapeTree}
use Rattle.meaning.specs.Trees.{Nested, flatten}
use Rattle.form_laws.proofs.Sound.{shape_takes}
use Rattle.storage.proofs.Unbroken.{none_front}
use Rattle.rule_laws.specs.Read.{IsRead}
use Rattle.rule_laws.specs.Units.{unit_of}
use Rattle.rule_laws.proofs.Lines.{entries_are, is_unit}
use Rattle.rule_laws.proofs.Unbroken.{none_behind}

-- ---- bare texts

kept_length : (inside : Bool) (c : ℕ) → length (kept inside c) ≤ 1
kept_length true c = omega arith
kept_length false c = by (c == blank)
  where
    by : (b : Bool) → length (if b then [] else raised c ∷ []) ≤ 1
    by true = omega arith
    by false = omega arith

bare_length : (inside : Bool) (text : List ℕ) → length (bare_behind inside text) ≤ length text
unfolding bare_behind
bare_length inside [] = omega arith
bare_length inside (c ∷ cs) =
    let next = if c == apostrophe then not inside else inside in
    let one = kept_length inside c in
    let rest = bare_length next cs in
    let whole = length-append (kept inside c) (bare_behind next cs) in
    omega (arith, one, rest, whole)

-- ---- the texts of groups

abbrev IsCard : StatementLine → Type 0
IsCard l = length l.columns ≤ 72

card_length : (line : List ℕ) → length (card line) ≤ 72
unfolding card
card_length line = let most = length-take 72 (line ++ replicate 72 blank) in omega (arith, most)

all_cards : (line : ℕ) (ls : List (List ℕ)) → AllByRecursion IsCard (statement_lines line ls)
unfolding statement_lines
all_cards line [] = tt
all_cards line (l ∷ ls) = by (is_comment (card l)) (all_cards (line + 1) ls)
  where
    by : (b : Bool) → AllByRecursion IsCard (statement_lines (line + 1) ls) → AllByRecursion IsCard (if b then statement_lines (line + 1) ls else record { line = line; columns = card l } ∷ statement_lines (line + 1) ls)
    by true h = h
    by false h = (card_length l, h)

continued_cards : (ls : List StatementLine) → AllByRecursion IsCard ls → AllByRecursion IsCard (continuations ls)
continued_cards [] h = tt
continued_cards (l ∷ ls) h =
    subst (AllByRecursion IsCard) (sym (take_while-cons (λ (k : StatementLine). not (is_initial k.columns)) l ls)) (by (not (is_initial l.columns)) (continued_cards ls h.1))
  where
    by : (b : Bool) → AllByRecursion IsCard (continuations ls) → AllByRecursion IsCard (cond b (l ∷ continuations ls) [])
    by true rest = (h.0, rest)
    by false rest = tt

abbrev HasCards : Group → Type 0
HasCards g = AllByRecursion IsCard (lines_in g)

group_cards : (ls : List StatementLine) → AllByRecursion IsCard ls → AllByRecursion HasCards (groups ls)
unfolding groups
group_cards [] h = tt
group_cards (l ∷ ls) h = by (is_initial l.columns) (group_cards ls h.1)
  where
    by : (b : Bool) → AllByRecursion HasCards (groups ls) → AllByRecursion HasCards (if b then record { initial = l; continued = continuations ls } ∷ groups ls else groups ls)
    by true rest = ((h.0, continued_cards ls h.1), rest)
    by false rest = rest

field_length : (l : StatementLine) → IsCard l → length (statement_field l.columns) ≤ 66
field_length l h = let less = length-drop 6 l.columns in omega (arith, less, h)

joined_length : (ls : List StatementLine) → AllByRecursion IsCard ls → length (flat_map (λ l. statement_field l.columns) ls) ≤ 66 * length ls
joined_length [] h = omega arith
joined_length (l ∷ ls) h =
    let one = field_length l h.0 in
    let rest = joined_length ls h.1 in
    let whole = length-append (statement_field l.columns) (flat_map (λ k. statement_field k.columns) ls) in
    omega (arith, one, rest, whole)

not_past : (ls : List StatementLine) → broken_past (drop 19 ls) ≡ [] → length ls ≤ 19
not_past ls none = by (drop 19 ls) (length-drop 19 ls) none
  where
    by : (more : List StatementLine) → length more ≡ length ls - 19 → broken_past more ≡ [] → length ls ≤ 19
    by [] is h = omega (arith, is)
    by (l ∷ more) is h = absurd cc

text_length : (g : Group) → HasCards g → broken_in_group g ≡ [] → length (text_of g) ≤ 1320
text_length g cards none =
    let few = not_past g.continued (none_front (broken_past (drop 19 g.continued)) _ none) in
    let long = joined_length (lines_in g) cards in
    omega (arith, few, long)

abbrev IsShortEntry : Entry → Type 0
IsShortEntry e = length e.text ≤ 1320

short_entries : (gs : List Group) → AllByRecursion HasCards gs → flat_map broken_in_group gs ≡ [] → AllByRecursion IsShortEntry (map entry_in gs)
short_entries [] cards none = tt
short_entries (g ∷ gs) cards none = (
  text_length g cards.0 (none_front (broken_in_group g) (flat_map broken_in_group gs) none),
  short_entries gs cards.1 (none_behind (broken_in_group g) (flat_map broken_in_group gs) none),
)

no_least : (bs : List Broken) {A : Type 0} (x y : A) → unless (least bs) x ≡ Ok y → bs ≡ []
no_least [] x y is = refl
no_least (b ∷ bs) x y is = absurd cc

stated_short : (ls : List StatementLine) (es : List Entry) → AllByRecursion IsCard ls → statements_in ls ≡ Ok es → AllByRecursion IsShortEntry es
unfolding statements_in
stated_short ls es cards is =
    let none = no_least (broken_in ls) (map entry_in (groups ls)) es is in
    let grouped = none_behind (map broken_alone (continuations ls)) _ (none_behind (flat_map broken_in_line ls) _ none) in
    subst (AllByRecursion IsShortEntry) (entries_are ls es is) (short_entries (groups ls) (group_cards ls cards) grouped)

entries_short : (source : List ℕ) (es : List Entry) → statements_of source ≡ Ok es → AllByRecursion IsShortEntry es
unfolding statements_of
entries_short source es is = by (is_too_long source) is
  where
    by : (b : Bool) → (if b then Err (record { line = 1; rule = C7 }) else statements_in (statement_lines 1 (lines_of source))) ≡ Ok es → AllByRecursion IsShortEntry es
    by true h = absurd cc
    by false h = stated_short (statement_lines 1 (lines_of source)) es (all_cards 1 (lines_of source)) h

-- ---- forms

read_reads : (text : List ℕ) (s : ShapeTree) → read_shape text ≡ Ok s → Reads text s
unfolding read_shape either
read_reads text s is = by_open (nat_lt 64 (most_open 0 false text)) is
  where
    by_shape : (o : Option ShapeTree) → shape_of text ≡ o → either o (Err (if is_left_out text then G2 else G1)) (λ f. Ok f) ≡ Ok s → Reads text s
    by_shape (Some f) shaped h = let same : f ≡ s = cc in shape_takes text s (shaped ∙ ap Some same)
    by_shape None shaped h = absurd cc

    by_open : (b : Bool) → (if b then Err G3 else either (shape_of text) (Err (if is_left_out text then G2 else G1)) (λ f. Ok f)) ≡ Ok s → Reads text s
    by_open true h = absurd cc
    by_open false h = by_shape (shape_of text) refl h

member_read : (e : Entry) (x : ItemTree) → IsShortEntry e → member_of e ≡ Ok x → IsRead x.shape
unfolding bare
member_read e x short is = by (read_shape (bare e.text)) refl is
  where
    by : (r : Result ShapeTree Rule) → read_shape (bare e.text) ≡ r → (at_line e.line r >>= λ s. Ok (record { line = e.line; label = e.label; shape = s })) ≡ Ok x → IsRead x.shape
    by (Ok s) read h =
        let same : record { line = e.line; label = e.label; shape = s } ≡ x = cc in
        let reads = read_reads (bare e.text) s read in
        let bare_short = bare_length false e.text in
        let spelled = ap length reads.spelled in
        subst (λ (y : ItemTree). IsRead y.shape) same (record { well = reads.well; short = omega (arith, short, bare_short, spelled) })
    by (Err rule) read h = absurd cc

all_read : (es : List Entry) (xs : List ItemTree) → AllByRecursion IsShortEntry es → all_of (map member_of es) ≡ Ok xs → AllByRecursion (λ x. IsRead x.shape) xs
all_read [] xs short is = let same : [] ≡ xs = cc in subst (AllByRecursion (λ (x : ItemTree). IsRead x.shape)) same tt
all_read (e ∷ es) xs short is = by (λ ys. all_read es ys short.1) (member_of e) (all_of (map member_of es)) refl refl is
  where
    by : ((ys : List ItemTree) → all_of (map member_of es) ≡ Ok ys → AllByRecursion (λ (x : ItemTree). IsRead x.shape) ys)
        → (r : Result ItemTree Broken) (rs : Result (List ItemTree) Broken) → member_of e ≡ r → all_of (map member_of es) ≡ rs → with_first r rs ≡ Ok xs → AllByRecursion (λ (x : ItemTree). IsRead x.shape) xs
    by others (Ok y) (Ok ys) first rest h =
        let same : y ∷ ys ≡ xs = cc in
        subst (AllByRecursion (λ (x : ItemTree). IsRead x.shape)) same (member_read e y short.0 first, others ys rest)
    by others (Ok y) (Err c) first rest h = absurd cc
    by others (Err b) (Ok ys) first rest h = absurd cc
    by others (Err b) (Err c) first rest h = absurd cc

pub unit_read : (source : List ℕ) (t : Nested) → unit_of source ≡ Ok t → AllByRecursion (λ x. IsRead x.shape) (flatten t)
unfolding members_of
unit_read source t is =
    let u = is_unit source t is in all_read u.entries (flatten t) (entries_short source u.entries u.stated) u.read
