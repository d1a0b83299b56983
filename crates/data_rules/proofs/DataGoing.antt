-- One statement more, whether or not it breaks the rule.
use Rattle.std.proofs.Common.{◌≡◌, ℕ, Bool, true, false, List, [], Option, Some, option_map, sym, ap, ap₂, ◌∙◌}
use Rattle.std.specs.Prelude.{is_some}
use Rattle.meaning.specs.Initial.{sets_at, sets_by, sets_of, starts_at}
use Rattle.meaning.specs.NumberRules.{known_behind_all, sizeless_in}
use Rattle.meaning.specs.Syntax.{DataSetTree, ItemTree}
use Rattle.meaning.specs.Uses.{Symbols}
use Rattle.symbols.specs.SymbolsAt.{symbols_at}
use Rattle.declarations.specs.declared.known.Table.{Table}
use Rattle.declarations.specs.Tables.{IsBehind, known_at}
use Rattle.data_rules.specs.declared.filling.Filling.{Filling}
use Rattle.data_rules.specs.declared.filling.Way.TheVariants as ways
use Rattle.data_rules.specs.DataFurther.{IsOneMore, gave_twice}
use Rattle.data_rules.specs.DataSets.{IsFilledBy, fill_sets, nothing, stage_by, stage_empty}
use Rattle.data_rules.proofs.DataPairing.{stage_in}
use Rattle.data_rules.proofs.DataStarting.{fits_dry, given_again, misfit}

-- by the constants of a table, and by the sets that count
module _ (t : Table) (before : List ItemTree) (x : ItemTree) (sizeless : List (List ℕ)) (sets : List DataSetTree) (f : Filling) where
  abbrev r : Symbols
  r = symbols_at t.symbols.now

  module _ (behind : IsBehind t before) (known : sizeless ≡ sizeless_in r [] before) (counted : sets ≡ sets_by r (known_at t) sizeless (sets_of x.shape)) (filled : IsFilledBy r before (stage_by f)) (fits : Bool) (tried : fits ≡ is_some (fill_sets r (known_at t) sets (stage_empty ways.Dry))) where
    there : sets ≡ sets_at r before x
    there = counted ∙ ap₂ (λ k ns. sets_by r k ns (sets_of x.shape)) behind known

    fit : fits ≡ is_some (starts_at r before x)
    fit = tried ∙ ap₂ (λ k xs. is_some (fill_sets r k xs (stage_empty ways.Dry))) behind there ∙ fits_dry r before x (stage_by f) nothing

    pub one_misfit : fits ≡ false → IsOneMore t before x (record { filling = f; is_bad = true })
    one_misfit no_fit =
        let m = misfit r before x (stage_by f) filled (sym fit ∙ no_fit) in
        record { filled = m.1; is_bad = sym m.0 }

    module _ (more : Option Filling) (given : option_map stage_by more ≡ fill_sets r (known_at t) sets (stage_in (ways.Again false) (stage_by f).given [])) (is : fits ≡ true) where
      there_given : option_map stage_by more ≡ fill_sets r (known_behind_all r before) (sets_at r before x) (stage_in (ways.Again false) (stage_by f).given [])
      there_given = given ∙ ap₂ (λ k xs. fill_sets r k xs (stage_in (ways.Again false) (stage_by f).given [])) behind there

      pub one_given : (g : Filling) (bad : Bool) → more ≡ Some g → bad ≡ gave_twice g.way → IsOneMore t before x (record { filling = record { given = g.given; way = ways.Once }; is_bad = bad })
      one_given g bad some twice =
          let m = given_again r before x (stage_by f) filled (sym fit ∙ is) (stage_by g) (sym (ap (option_map stage_by) some) ∙ there_given) in
          record { filled = m.1; is_bad = twice ∙ m.0 }
