-- Members and then others, and arms and then others.
use Rattle.std.specs.Prelude.{◌⊎◌}
use Rattle.std.proofs.Common.{◌≡◌, ℕ, Bool, true, false, inl, inr, List, ◌∷◌, ◌++◌, refl, sym, ap, subst, ◌∙◌, append_assoc}
use Rattle.std.proofs.lemmas.List.{append-nil}
use Rattle.meaning.specs.Trees.{Members, none, plain, loop, block, Arms, no_arms, arm, flat, flat_arms}
use Rattle.meaning.specs.Syntax.{ItemTree}
use Rattle.meaning.specs.Nesting.{joined, joined_arms, with_arm, is_end_do, effect_of, ends_with_end_do, IsPlain, IsEndDo, IsWell}

pub joined_none : (ms : Members) → joined ms none ≡ ms
joined_none none = refl
joined_none (plain x ms) = ap (plain x) (joined_none ms)
joined_none (loop x r ms) = ap (loop x r) (joined_none ms)
joined_none (block arms x ms) = ap (block arms x) (joined_none ms)

pub joined_joined : (a b c : Members) → joined (joined a b) c ≡ joined a (joined b c)
joined_joined none b c = refl
joined_joined (plain x ms) b c = ap (plain x) (joined_joined ms b c)
joined_joined (loop x r ms) b c = ap (loop x r) (joined_joined ms b c)
joined_joined (block arms x ms) b c = ap (block arms x) (joined_joined ms b c)

pub flat_joined : (a b : Members) → flat (joined a b) ≡ flat a ++ flat b
flat_joined none b = refl
flat_joined (plain x ms) b = ap (λ (xs : List ItemTree). x ∷ xs) (flat_joined ms b)
flat_joined (loop x r ms) b = ap (λ (xs : List ItemTree). x ∷ (flat r ++ xs)) (flat_joined ms b) ∙ ap (λ (xs : List ItemTree). x ∷ xs) (sym (append_assoc (flat r) (flat ms) (flat b)))
flat_joined (block arms x ms) b = ap (λ (xs : List ItemTree). flat_arms arms ++ (x ∷ xs)) (flat_joined ms b) ∙ sym (append_assoc (flat_arms arms) (x ∷ flat ms) (flat b))

-- in a list that isn't a range's no statement is END DO
pub alone_of : (x : ItemTree) (ms : Members) → IsPlain x.shape ⊎ IsEndDo false x.shape ms → IsPlain x.shape
alone_of x ms (inl p) = p
alone_of x ms (inr e) = let k : false ≡ true = e.ranged in absurd cc

-- END DO may come at the end of a range alone
pub well_joined : (r : Bool) (n : ℕ) (a b : Members) → IsWell false n a → IsWell r n b → IsWell r n (joined a b)
well_joined r n none b h k = k
well_joined r n (plain x ms) b h k = (inl (alone_of x ms h.0), well_joined r n ms b h.1 k)
well_joined r n (loop x q ms) b h k = (h.0, h.1, h.2, well_joined r n ms b h.3 k)
well_joined r n (block arms x ms) b h k = (h.0, h.1, h.2, well_joined r n ms b h.3 k)

pub well_ranged : (n : ℕ) (a : Members) → IsWell false n a → IsWell true n a
well_ranged n a h = subst (IsWell true n) (joined_none a) (well_joined true n a none h tt)

-- whether END DO is the last member
pub ends_joined : (a : Members) (x : ItemTree) → ends_with_end_do (joined a (plain x none)) ≡ is_end_do (effect_of x.shape)
ends_joined none x = refl
ends_joined (plain y none) x = refl
ends_joined (plain y (plain z ms)) x = ends_joined (plain z ms) x
ends_joined (plain y (loop z q ms)) x = ends_joined (loop z q ms) x
ends_joined (plain y (block arms z ms)) x = ends_joined (block arms z ms) x
ends_joined (loop y q ms) x = ends_joined ms x
ends_joined (block arms y ms) x = ends_joined ms x

pub arms_joined : (a b c : Arms) → joined_arms (joined_arms a b) c ≡ joined_arms a (joined_arms b c)
arms_joined no_arms b c = refl
arms_joined (arm x ms arms) b c = ap (arm x ms) (arms_joined arms b c)

pub flat_arms_joined : (a b : Arms) → flat_arms (joined_arms a b) ≡ flat_arms a ++ flat_arms b
flat_arms_joined no_arms b = refl
flat_arms_joined (arm x ms arms) b = ap (λ (xs : List ItemTree). x ∷ (flat ms ++ xs)) (flat_arms_joined arms b) ∙ ap (λ (xs : List ItemTree). x ∷ xs) (sym (append_assoc (flat ms) (flat_arms arms) (flat_arms b)))

-- one arm more
pub flat_with_arm : (arms : Arms) (x : ItemTree) (ms : Members) → flat_arms (with_arm arms x ms) ≡ flat_arms arms ++ (x ∷ flat ms)
flat_with_arm arms x ms = flat_arms_joined arms (arm x ms no_arms) ∙ ap (λ (xs : List ItemTree). flat_arms arms ++ (x ∷ xs)) (append-nil (flat ms))
