-- What is kept of statements, one statement more.
use Rattle.std.proofs.Common.{◌≡◌, ◌≢◌, ◌<◌, ◌+◌, ℕ, List, [], ◌∷◌, ◌++◌, length, get_or, take, Option, Some, None, sym, refl, subst}
use Rattle.std.specs.Borrow.{Bor}
use Rattle.meaning.specs.declared.syntax.Item.{Item}
use Rattle.meaning.specs.declared.syntax.Tree.{Tree}
use Rattle.meaning.specs.Syntax.{ItemTree}
use Rattle.symbols.specs.Listed.{tree_at, trees_at}
use Rattle.symbols.proofs.Passes.{map_more}
use Rattle.program.specs.declared.action.Action.{Action}
use Rattle.program.specs.declared.actions.Actions.{Actions}
use Rattle.program.specs.Acts.{Acts}
use Rattle.program.specs.Kept.{ActsIf, Adds, AreKept, HasNoOther, IsFree, Keeps, action_at}

module _ (t : Tree) where
  -- of one statement, where what is kept stays
  stays : (old new : Actions) (x : ItemTree) → Keeps old new → (o : Option Action) → action_at old x.line ≡ o → ActsIf t o x.shape → ActsIf t (action_at new x.line) x.shape
  stays old new x keeps None is acts = absurd acts
  stays old new x keeps (Some a) is acts =
      subst (λ o. ActsIf t o x.shape) (sym (keeps x.line a is)) acts

  all_stay : (old new : Actions) (xs : List ItemTree) → Keeps old new → AreKept t old xs → AreKept t new xs
  all_stay old new [] keeps kept = tt
  all_stay old new (x ∷ xs) keeps kept =
      (stays old new x keeps (action_at old x.line) refl kept.0, all_stay old new xs keeps kept.1)

  one_behind : (a : Actions) (xs : List ItemTree) (x : ItemTree) → AreKept t a xs → ActsIf t (action_at a x.line) x.shape → AreKept t a (xs ++ x ∷ [])
  one_behind a [] x kept acts = (acts, tt)
  one_behind a (y ∷ xs) x kept acts = (kept.0, one_behind a xs x kept.1 acts)

  -- the statement with this number is kept too
  pub kept_more : (old new : Actions) (ms : List (Bor Item)) (i : ℕ) (m : Bor Item) (a : Action) → i < length ms → m ≡ get_or ms i m → AreKept t old (trees_at (take i ms)) → Adds old (tree_at m).line a new → Acts t a (tree_at m).shape → AreKept t new (trees_at (take (i + 1) ms))
  kept_more old new ms i m a lt is kept added acts =
      subst (λ xs. AreKept t new xs) (sym (map_more tree_at ms i m lt is)) (one_behind new (trees_at (take i ms)) (tree_at m) (all_stay old new (trees_at (take i ms)) added.keeps kept) (subst (λ o. ActsIf t o (tree_at m).shape) (sym added.is) acts))

-- ---- nothing else is kept

free_but : (line : ℕ) (xs : List ItemTree) (x : ItemTree) → IsFree line (xs ++ x ∷ []) → IsFree line xs × (x.line ≢ line)
free_but line [] x free = (tt, free.0)
free_but line (y ∷ xs) x free =
    let others = free_but line xs x free.1 in
    ((free.0, others.0), others.1)

one_other : (old new : Actions) (xs : List ItemTree) (x : ItemTree) (a : Action) → HasNoOther old xs → Adds old x.line a new → HasNoOther new (xs ++ x ∷ [])
one_other old new xs x a none added =
    record {
      few = added.few;
      others = λ line free.
          let but = free_but line xs x free in
          added.others line (λ same. but.1 (sym same)) (none.others line but.0);
    }

pub others_more : (old new : Actions) (ms : List (Bor Item)) (i : ℕ) (m : Bor Item) (a : Action) → i < length ms → m ≡ get_or ms i m → HasNoOther old (trees_at (take i ms)) → Adds old (tree_at m).line a new → HasNoOther new (trees_at (take (i + 1) ms))
others_more old new ms i m a lt is none added =
    subst (HasNoOther new) (sym (map_more tree_at ms i m lt is)) (one_other old new (trees_at (take i ms)) (tree_at m) a none added)
