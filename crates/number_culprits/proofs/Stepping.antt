-- What is told of constants and bounds, one more.
use Rattle.std.proofs.Common.{◌≡◌, ℕ, ◌+◌, ◌<◌, List, [], ◌∷◌, ◌++◌, length, get_or, drop, map, refl, sym, ap, ◌∙◌, Option, Some, None}
use Rattle.std.specs.Prelude.{flat_map}
use Rattle.std.specs.Option.{option_or}
use Rattle.meaning.specs.declared.syntax.Bounds.{Bounds}
use Rattle.meaning.specs.declared.syntax.Declarator.{Declarator}
use Rattle.meaning.specs.declared.syntax.NamedConstant.{NamedConstant}
use Rattle.meaning.specs.Scopes.{with_constant}
use Rattle.meaning.specs.Syntax.{ExprTree, bounds_tree, constant_tree, declarator_tree}
use Rattle.meaning.specs.Types.{Types}
use Rattle.meaning.specs.Values.{Known}
use Rattle.symbols.proofs.Passes.{map_left}
use Rattle.declarations.specs.Bounded.{exprs_of}
use Rattle.number_culprits.specs.Numbers.{bad_bound, bad_constant, bounds_of, first_none, none_in}
use Rattle.number_culprits.specs.Told.{Told, faulty, unbounded}

module _ (types : Types) (known : Known) where
  or_assoc : (o p q : Option Told) → option_or o (option_or p q) ≡ option_or (option_or o p) q
  or_assoc None p q = refl
  or_assoc (Some k) p q = refl

  pub none_both : (fault : Told) (es fs : List ExprTree) → first_none types known fault (es ++ fs) ≡ option_or (first_none types known fault es) (first_none types known fault fs)
  none_both fault [] fs = refl
  none_both fault (e ∷ es) fs =
      ap (option_or (none_in types known fault e)) (none_both fault es fs) ∙ or_assoc (none_in types known fault e) (first_none types known fault es) (first_none types known fault fs)

  -- the bounds of an array that are left
  abbrev pub left_open : Told → List Bounds → ℕ → Option Told
  left_open fault bs i = first_none types known fault (flat_map exprs_of (map bounds_tree (drop i bs)))

  pub open_left : (fault : Told) (bs : List Bounds) (i : ℕ) (b : Bounds) (o : Option Told) → i < length bs → b ≡ get_or bs i b → o ≡ first_none types known fault (exprs_of (bounds_tree b)) → option_or o (left_open fault bs (i + 1)) ≡ left_open fault bs i
  open_left fault bs i b o lt is here =
      ap (λ p. option_or p (left_open fault bs (i + 1))) here
      ∙ sym (none_both fault (exprs_of (bounds_tree b)) (flat_map exprs_of (map bounds_tree (drop (i + 1) bs))))
      ∙ ap (λ ys. first_none types known fault (flat_map exprs_of ys)) (sym (map_left bounds_tree bs i b lt is))

  -- the arrays that are left
  abbrev pub left_bad : List Declarator → ℕ → Option Told
  left_bad ds i = bad_bound types known (map declarator_tree (drop i ds))

  pub bad_left : (ds : List Declarator) (i : ℕ) (d : Declarator) (o : Option Told) → i < length ds → d ≡ get_or ds i d → o ≡ first_none types known (unbounded d.name.items) (bounds_of (declarator_tree d)) → option_or o (left_bad ds (i + 1)) ≡ left_bad ds i
  bad_left ds i d o lt is here =
      ap (λ p. option_or p (left_bad ds (i + 1))) here ∙ ap (bad_bound types known) (sym (map_left declarator_tree ds i d lt is))

-- the constants that are left
pub constant_left : (types : Types) (known : Known) (cs : List NamedConstant) (i : ℕ) (c : NamedConstant) (o : Option Told) → i < length cs → c ≡ get_or cs i c → o ≡ none_in types known (faulty c.name.items) (constant_tree c).value → option_or o (bad_constant types (with_constant types known (constant_tree c)) (map constant_tree (drop (i + 1) cs))) ≡ bad_constant types known (map constant_tree (drop i cs))
constant_left types known cs i c o lt is here =
    ap (λ p. option_or p (bad_constant types (with_constant types known (constant_tree c)) (map constant_tree (drop (i + 1) cs)))) here
    ∙ ap (bad_constant types known) (sym (map_left constant_tree cs i c lt is))
