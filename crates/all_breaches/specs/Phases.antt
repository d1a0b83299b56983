-- The pairs of the first phase in which a source breaks a rule.
use Rattle.std.specs.Prelude.{ℕ, List, map, Option, Some, None, Result, Ok, Err}
use Rattle.std.specs.List.{filter_map}
use Rattle.meaning.specs.declared.refusal.Broken.{Broken}
use Rattle.meaning.specs.Answers.{member_of, members_of}
use Rattle.meaning.specs.Nesting.{nest}
use Rattle.meaning.specs.Rules.{broken_rules}
use Rattle.meaning.specs.Statements.{Entry, statements_of}
use Rattle.meaning.specs.Syntax.{ItemTree}
use Rattle.nesting.specs.Pairs.{pairs_of_order}
use Rattle.source_columns.specs.AllBroken.{pairs_of_lines}

-- the pair, where a rule is broken
abbrev pub refused_by : {A : Type 0} → Result A Broken → Option Broken
refused_by (Ok x) = None
refused_by (Err b) = Some b

-- G: one of each statement whose text breaks a rule
abbrev pub pairs_of_texts : List Entry → List Broken
pairs_of_texts entries = filter_map refused_by (map member_of entries)

-- the pairs of a phase that refuses, else those of the phases behind it
abbrev pub told_or : {A : Type 0} → Result A Broken → List Broken → (A → List Broken) → List Broken
told_or (Err b) pairs later = pairs
told_or (Ok x) pairs later = later x

-- from N on; K: each rule at each line that breaks it
abbrev pub pairs_from_order : List ItemTree → List Broken
pairs_from_order members = told_or (nest members) (pairs_of_order members) broken_rules

-- from G on
abbrev pub pairs_from_texts : List Entry → List Broken
pairs_from_texts entries = told_or (members_of entries) (pairs_of_texts entries) pairs_from_order

-- of all phases: C, G, N and K
unfoldable pub broken_pairs : List ℕ → List Broken
broken_pairs source = told_or (statements_of source) (pairs_of_lines source) pairs_from_texts
