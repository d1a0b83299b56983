-- What continuation lines break, one by one (ANSI X3.9-1978, 3.2.3).
use Rattle.std.specs.Prelude.{ℕ, ◌+◌, ◌==◌, not, List, [], ◌∷◌, ◌++◌, Option, Some, None, Result}
use Rattle.std.specs.Prelude.{if◌then◌else◌}
use Rattle.std.specs.List.{list_all, flat_map}
use Rattle.meaning.specs.declared.refusal.Broken.{Broken}
use Rattle.meaning.specs.declared.refusal.Rule.{Rule}
use Rattle.meaning.specs.declared.refusal.Rule.TheVariants.{C1, C3, C5}
use Rattle.meaning.specs.Lines.{label_field, statement_field, is_initial, StatementLine}
use Rattle.meaning.specs.Refusals.{unless}
use Rattle.meaning.specs.Statements.{is_printable, is_blank_field, continuations}

-- the least rule that a continuation line breaks, so many others being before it
abbrev pub rule_behind : ℕ → List ℕ → Option Rule
rule_behind count columns =
    if not (list_all is_printable columns) then Some C1
    else (if not (is_blank_field (label_field columns)) then Some C3
    else (if count == 19 then Some C5 else None))

-- the pair, or else another
abbrev pub or_else : Option Broken → Option Broken → Option Broken
or_else None o = o
or_else (Some b) o = Some b

abbrev pub broken_at : ℕ → Option Rule → Option Broken
broken_at line None = None
broken_at line (Some rule) = Some (record { line = line; rule = rule })

-- the first pair that continuation lines break
unfoldable pub first_broken : ℕ → List StatementLine → Option Broken
first_broken count [] = None
first_broken count (l ∷ ls) =
    or_else (broken_at l.line (rule_behind count l.columns)) (first_broken (count + 1) ls)

-- a text and the continuation lines in front, joined, unless one of them breaks a rule
abbrev pub joined : List ℕ → List StatementLine → Result (List ℕ) Broken
joined text ls =
    unless (first_broken 0 (continuations ls))
    (text ++ flat_map (λ l. statement_field l.columns) (continuations ls))

-- what stands behind the continuation lines
unfoldable pub behind : List StatementLine → List StatementLine
behind [] = []
behind (l ∷ ls) = if is_initial l.columns then l ∷ ls else behind ls
