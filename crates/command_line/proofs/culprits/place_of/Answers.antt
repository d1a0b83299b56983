use Rattle.std.proofs.Common.{◌≡◌, ◌∙◌, ◌<◌, ◌+◌, ◌-◌, ◌/◌, ℕ, length, List, take, suc, arith, subst, sym}
use Rattle.std.proofs.lemmas.Bool.{false≢true}
use Rattle.std.proofs.lemmas.List.{length-map}
use Rattle.command_line.specs.CommandLine.{Text}
use Rattle.command_line.specs.Culprits.{IsWrong}
use Rattle.command_line.specs.Matches.{texts_in}
use Rattle.command_line.proofs.Places.{front_right, front_wrong, later_words, none_wrong, some_words, strictly, whole}
use Rattle.command_line.proofs.culprits.place_of.Goals as goal

pub loop-place-init : goal.loop-place-init
loop-place-init c =
    let texts : List Text = texts_in c.args.words.now in
    let same : length texts ≡ length c.args.words.now = length-map c.args.words.now (λ word. word.now) in
    let some : 0 < length texts = some_words c.args.wrong texts c.requires in
    record {
      apart = omega (arith, same, some);
      within = omega arith;
      right = none_wrong c.args.wrong;
      wrong = λ n le. whole texts c.args.wrong n (omega (arith, same, le)) c.requires;
    }

pub loop-place-preserved-then-not-branch : goal.loop-place-preserved-then-not-branch
loop-place-preserved-then-not-branch c =
    let middle : ℕ = c.loop-place.before + (c.loop-place.place - c.loop-place.before) / 2 in
    record {
      apart = omega (arith, c.loop-place-test.true);
      within = c.loop-place.invariant.within;
      right = front_right c.args.wrong c.args.words.now middle (λ e. false≢true (sym c.if-not-branch.true ∙ c.in_ok-is_wrong.ensures.1 e));
      wrong = c.loop-place.invariant.wrong;
    }

pub loop-place-preserved-then-not-branch-2 : goal.loop-place-preserved-then-not-branch-2
loop-place-preserved-then-not-branch-2 c =
    let middle : ℕ = c.loop-place.before + (c.loop-place.place - c.loop-place.before) / 2 in
    let right : IsWrong c.args.wrong (take (middle + 1) (texts_in c.args.words.now)) → ⊥ =
    front_right c.args.wrong c.args.words.now (middle + 1) (λ e. false≢true (sym c.if-not-branch-2.true ∙ c.in_ok-is_wrong-2.ensures.1 e)) in
    record {
      apart = strictly (middle + 1) c.loop-place.place (omega (arith, c.loop-place-test.true)) (λ same. right (c.loop-place.invariant.wrong (middle + 1) (omega (arith, same))));
      within = c.loop-place.invariant.within;
      right = right;
      wrong = c.loop-place.invariant.wrong;
    }

pub loop-place-preserved : goal.loop-place-preserved
loop-place-preserved c =
    let middle : ℕ = c.loop-place.before + (c.loop-place.place - c.loop-place.before) / 2 in
    let next : middle + 1 ≡ suc middle = omega arith in
    let whole_words : IsWrong c.args.wrong (texts_in c.args.words.now) = c.requires in
    record {
      apart = omega (arith, c.loop-place-test.true);
      within = omega (arith, c.loop-place.invariant.within);
      right = c.loop-place.invariant.right;
      wrong = later_words (texts_in c.args.words.now) c.args.wrong middle (front_wrong c.args.wrong c.args.words.now middle (c.in_ok-is_wrong.ensures.0 c.if-not-branch.false))
          (subst (λ n. IsWrong c.args.wrong (take n (texts_in c.args.words.now))) next (front_wrong c.args.wrong c.args.words.now (middle + 1) (c.in_ok-is_wrong-2.ensures.0 c.if-not-branch-2.false)))
          whole_words;
    }

pub returns : goal.returns
returns c =
    let same : length (texts_in c.args.words.now) ≡ length c.args.words.now = length-map c.args.words.now (λ word. word.now) in
    record {
      there = omega (arith, same, c.loop-place.invariant.apart, c.loop-place.invariant.within);
      before = c.loop-place.invariant.right;
      behind = λ n lt le. c.loop-place.invariant.wrong n (omega (arith, lt, c.loop-place-test.false));
    }
