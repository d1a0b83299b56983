-- Places and lines that are put one behind the other.
use Rattle.std.proofs.Common.{◌≡◌, ℕ, zero, suc, [], ◌∷◌, ◌++◌, ◌+◌, Bool, true, false, ◌||◌, List, Option, Some, None, Result, Ok, Err, OnOk, refl, sym, ap, ◌∙◌}
use Rattle.std.specs.Prelude.{if◌then◌else◌, ◌==◌, ◌&&◌, not, replicate, slice_get}
use Rattle.std.specs.BTreeSet.{BTreeSet, contains}
use Rattle.std.specs.Option.{option_or}
use Rattle.std.specs.Ordering.{nat_cmp}
use Rattle.meaning.specs.declared.syntax.Arm.{Arm}
use Rattle.meaning.specs.declared.syntax.Block.{out-Block}
use Rattle.meaning.specs.declared.syntax.Loop.{Loop as LoopOf, out-Loop}
use Rattle.meaning.specs.declared.syntax.Member.{Member, Loop, Block}
use Rattle.meaning.specs.Execution.{heads}
use Rattle.meaning.specs.LabelRules.{has_label, is_label_at}
use Rattle.meaning.specs.Trees.{none, arms_tree, item_tree, member_before, members_tree}
use Rattle.meaning.proofs.Ranges.{member_before-loop, member_before-block}
use Rattle.label_targets.specs.Quiet.{is_quiet}
use Rattle.label_targets.specs.Output.{has_output, has_output_in_arms}
use Rattle.label_targets.specs.Places.{place_from, place_in_arms}
use Rattle.label_targets.specs.Puts.{Puts, PutsLines, member_loud, member_places, place_at, place_if, nowhere, told}

pub on_ok_then : {X E : Type 0} (P Q : Type 0) (r : Result X E) → OnOk r P → (P → Q) → OnOk r Q
on_ok_then P Q (Ok x) p f = f p
on_ok_then P Q (Err e) p f = tt

-- ---- options

or_none : {A : Type 0} (o : Option A) → option_or o None ≡ o
or_none None = refl
or_none (Some x) = refl

or_or : {A : Type 0} (o p q : Option A) → option_or (option_or o p) q ≡ option_or o (option_or p q)
or_or None p q = refl
or_or (Some x) p q = refl

first_or : {A : Type 0} (b : Bool) (x : A) (o : Option A) → option_or (if b then Some x else None) o ≡ (if b then Some x else o)
first_or true x o = refl
first_or false x o = refl

-- ---- places

none_there : (n s : ℕ) → told (slice_get (replicate n nowhere) s) ≡ None
none_there zero s = refl
none_there (suc n) zero = refl
none_there (suc n) (suc s) = none_there n s

-- more labels that lead nowhere
pub grown : (places : List ℕ) (n s : ℕ) → place_at (places ++ replicate n nowhere) s ≡ place_at places s
grown [] n s = none_there n s
grown (p ∷ ps) n zero = refl
grown (p ∷ ps) n (suc s) = grown ps n s

pub loop_places : (old one two : List ℕ) (i : ℕ) (x : Member) (l : LoopOf) (ms : List Member) → x ≡ Loop l → ms ≡ (out-Loop l).range.items → Puts (place_if (out-Loop l).head.label i) old one → Puts (λ s. place_from s 0 (members_tree ms)) one two → Puts (member_places x i) old two
loop_places old one two i x l ms is same first behind = λ s.
    let b = has_label s (item_tree (out-Loop l).head) in
    let r = place_from s 0 (members_tree (out-Loop l).range.items) in
    behind s ∙ ap (λ ns. option_or (place_at one s) (place_from s 0 (members_tree ns))) same
    ∙ ap (λ o. option_or o r) (first s)
    ∙ or_or (place_at old s) (place_if (out-Loop l).head.label i s) r
    ∙ ap (option_or (place_at old s)) (first_or b i r ∙ ap (λ o. if b then Some i else o) (sym (or_none r)))
    ∙ ap (λ m. option_or (place_at old s) (place_from s i m)) (sym (member_before-loop l none))
    ∙ ap (λ y. option_or (place_at old s) (place_from s i (member_before y none))) (sym is)

pub block_places : (old one two three : List ℕ) (i : ℕ) (x : Member) (b : _) (label : Option ℕ) (firsts arms : List Arm) → x ≡ Block b → firsts ≡ (out-Block b).arms.items → arms ≡ (out-Block b).arms.items → ((s : ℕ) → is_label_at label s ≡ heads s (arms_tree firsts)) → Puts (place_if label i) old one → Puts (λ s. place_in_arms s (arms_tree arms)) one two → Puts (place_if (out-Block b).end.label (i + 1)) two three → Puts (member_places x i) old three
block_places old one two three i x b label firsts arms is firsts_are arms_are headed first inside last = λ s.
    let h = heads s (arms_tree (out-Block b).arms.items) in
    let a = place_in_arms s (arms_tree (out-Block b).arms.items) in
    let e = place_if (out-Block b).end.label (i + 1) s in
    last s
    ∙ ap (λ o. option_or o e) (inside s ∙ ap (λ xs. option_or (place_at one s) (place_in_arms s (arms_tree xs))) arms_are ∙ ap (λ o. option_or o a) (first s ∙ ap (λ z. option_or (place_at old s) (if z then Some i else None)) (headed s ∙ ap (λ xs. heads s (arms_tree xs)) firsts_are)))
    ∙ ap (λ o. option_or o e) (or_or (place_at old s) (if h then Some i else None) a)
    ∙ or_or (place_at old s) (option_or (if h then Some i else None) a) e
    ∙ ap (option_or (place_at old s)) (or_or (if h then Some i else None) a e ∙ first_or h i (option_or a e))
    ∙ ap (λ m. option_or (place_at old s) (place_from s i m)) (sym (member_before-block b none))
    ∙ ap (λ y. option_or (place_at old s) (place_from s i (member_before y none))) (sym is)

-- ---- lines

or_false : (a : Bool) → (a || false) ≡ a
or_false true = refl
or_false false = refl

or_again : (a b c : Bool) → ((a || b) || c) ≡ (a || (b || c))
or_again true b c = refl
or_again false b c = refl

pub loop_loud : (old one two : BTreeSet ℕ) (x : Member) (l : LoopOf) (ms : List Member) → x ≡ Loop l → ms ≡ (out-Loop l).range.items → PutsLines (λ line. ((out-Loop l).head.line == line) && not (is_quiet (members_tree (out-Loop l).range.items))) old one → PutsLines (λ line. has_output line (members_tree ms)) one two → PutsLines (member_loud x) old two
loop_loud old one two x l ms is same first behind = λ line.
    let a = ((out-Loop l).head.line == line) && not (is_quiet (members_tree (out-Loop l).range.items)) in
    let b = has_output line (members_tree (out-Loop l).range.items) in
    let c = contains nat_cmp old line in
    behind line ∙ ap (λ ns. contains nat_cmp one line || has_output line (members_tree ns)) same
    ∙ ap (λ z. z || b) (first line) ∙ or_again c a b ∙ ap (λ z. c || (a || z)) (sym (or_false b))
    ∙ ap (λ m. c || has_output line m) (sym (member_before-loop l none))
    ∙ ap (λ y. c || has_output line (member_before y none)) (sym is)

pub block_loud : (old new : BTreeSet ℕ) (x : Member) (b : _) (arms : List Arm) → x ≡ Block b → arms ≡ (out-Block b).arms.items → PutsLines (λ line. has_output_in_arms line (arms_tree arms)) old new → PutsLines (member_loud x) old new
block_loud old new x b arms is same put = λ line.
    let c = contains nat_cmp old line in
    put line ∙ ap (λ xs. c || has_output_in_arms line (arms_tree xs)) same
    ∙ ap (λ z. c || z) (sym (or_false (has_output_in_arms line (arms_tree (out-Block b).arms.items))))
    ∙ ap (λ m. c || has_output line m) (sym (member_before-block b none))
    ∙ ap (λ y. c || has_output line (member_before y none)) (sym is)
