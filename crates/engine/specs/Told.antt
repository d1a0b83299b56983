-- What is told of a run, or of a check, on standard error.
use Rattle.std.specs.Prelude.{◌≡◌, ◌⊎◌, ℕ, Bool, true, false, ◌&&◌, ◌||◌, not, List, [], ◌∷◌, ◌++◌}
use Rattle.std.specs.Prelude.{Option, Some, None, Ok, Err, codes, if◌then◌else◌, is_some, nat_lt}
use Rattle.std.specs.List.{list_any}
use Rattle.std.specs.Str.{bytes_eq}
use Rattle.std.specs.BTreeMap.{BTreeMap}
use Rattle.meaning.specs.declared.ending.Ending.{Ending}
use Rattle.meaning.specs.declared.ending.Ending.TheVariants as endings
use Rattle.meaning.specs.declared.ending.Report.{Report}
use Rattle.meaning.specs.declared.refusal.Broken.{Broken}
use Rattle.meaning.specs.declared.refusal.Rule.{Rule}
use Rattle.meaning.specs.declared.syntax.Tree.{Tree}
use Rattle.meaning.specs.Answers.{program_of}
use Rattle.meaning.specs.Arrays.{Named}
use Rattle.meaning.specs.Names.{rule_name}
use Rattle.meaning.specs.Promise.{Told}
use Rattle.meaning.specs.Trees.{members_tree}
use Rattle.storage.specs.Checked.{named_of_program, tree_of}
use Rattle.all_breaches.specs.Further.{AreFurther}
use Rattle.do_statements.specs.declared.listing.DoStatement.{DoStatement}
use Rattle.do_statements.specs.Listing.{listed_in}
use Rattle.loop_reports.specs.declared.row.Row.{Row}
use Rattle.loop_reports.specs.Lines.{loop_lines}
use Rattle.command_line.specs.declared.asked.Options.{Options}
use Rattle.command_line.specs.declared.asked.Speculation.{Speculation}
use Rattle.command_line.specs.declared.asked.Speculation.TheVariants.{Never}
use Rattle.messages.specs.declared.explaining.Matter.{Matter}
use Rattle.messages.specs.declared.hinting.Cause.TheVariants as causes
use Rattle.messages.specs.Explained.{IsMatter, IsRuleMatter}
use Rattle.messages.specs.Named.{file_named}
use Rattle.messages.specs.Hinted.{IsHinted, cause_of}
use Rattle.messages.specs.Shown.{Given, IsTold}
use Rattle.engine.specs.Explained.{Explains}
use Rattle.engine.specs.Lines.{line_at, lines_of}

-- where a growth was refused for what was to be told
abbrev pub not_told : List ℕ
not_told = codes "  NOT TOLD\n"

-- ---- what is wanted

-- stages are told of a run, but for one whose records were refused
abbrev pub is_staged : Options → Ending → Bool
is_staged asked endings.WriteRefused = false
is_staged asked ending = asked.stages && not asked.check

-- further rules are told of a check that refuses the source
abbrev pub is_further : Options → Ending → Bool
is_further asked (endings.Refused rule line) = asked.check
is_further asked ending = false

-- the rule that is explained before all others, where rules are explained
abbrev pub explained_first : Options → Ending → Option Rule
explained_first asked (endings.Refused rule line) = if asked.explain then Some rule else None
explained_first asked ending = None

-- ---- further rules

abbrev pub has_name : List ℕ → Rule → Bool
has_name name rule = bytes_eq (rule_name rule) name

-- the first rule has it, or that of one of these pairs
abbrev pub is_named : List ℕ → Rule → List Broken → Bool
is_named name first before = has_name name first || list_any (λ b. has_name name b.rule) before

-- the rule was explained, at the least pair or at one of those behind it
abbrev pub is_explained : Rule → List Broken → Rule → Bool
is_explained first before rule = is_named (rule_name rule) first before

-- what there is to explain of a pair behind others, where rules are explained; its rule's sentence
-- is told once
abbrev pub IsPairMatter : Option Rule → List Broken → Broken → Option Matter → Type 0
IsPairMatter None before b matter = matter ≡ None
IsPairMatter (Some first) before b None = ⊥
IsPairMatter (Some first) before b (Some matter) =
    IsRuleMatter b.rule b.line (is_explained first before b.rule) matter

-- what is told of a pair behind the least one
abbrev pub IsPair : List ℕ → List ℕ → Broken → Option Matter → List ℕ → Type 0
IsPair file source b matter lines =
    (more : List ℕ) × (hint : List ℕ) × Explains file source matter more
    × Given (is_some matter) (IsHinted source (Some (causes.Rule b.rule b.line))) hint
    × (lines ≡ line_at (codes "  ALSO ") (rule_name b.rule) b.line ++ more ++ hint)

abbrev pub IsPairBehind : Option Rule → List ℕ → List ℕ → List Broken → Broken → List ℕ → Type 0
IsPairBehind first file source before b lines =
    (matter : Option Matter) × IsPairMatter first before b matter
    × IsPair file source b matter lines

-- one behind the other, and behind others
abbrev pub ArePairs : Option Rule → List ℕ → List ℕ → List Broken → List Broken → List ℕ → Type 0
ArePairs first file source before [] lines = lines ≡ []
ArePairs first file source before (b ∷ bs) lines =
    (one : List ℕ) × (behind : List ℕ) × IsPairBehind first file source before b one
    × ArePairs first file source (before ++ b ∷ []) bs behind × (lines ≡ one ++ behind)

abbrev pub AreAlso : Option Rule → List ℕ → List ℕ → List ℕ → Type 0
AreAlso first file source lines =
    (lines ≡ not_told)
    ⊎ ((pairs : List Broken) × AreFurther source pairs
    × ArePairs first file source [] pairs lines)

-- ---- stages

abbrev pub is_never : Speculation → Bool
is_never Never = true
is_never s = false

-- one worker alone executes all
abbrev pub is_alone : Options → Bool
is_alone asked = is_never asked.speculate || nat_lt asked.plan.workers 2

-- the names and the DO statements of a program
abbrev pub IsOutline : Tree → List Named → List DoStatement → Type 0
IsOutline t names statements =
    (names ≡ named_of_program t) × (statements ≡ listed_in None (members_tree t.body.items))

-- of the one that a source spells
abbrev pub IsOutlineOf : List ℕ → List Named → List DoStatement → Type 0
IsOutlineOf source names statements =
    ((t : Tree) × (program_of source ≡ Ok (tree_of t)) × IsOutline t names statements)
    ⊎ ((b : Broken) × (program_of source ≡ Err b) × (names ≡ []) × (statements ≡ []))

abbrev pub AreStages : List ℕ → Bool → Option ℕ → List ℕ → Type 0
AreStages source is_alone turns lines =
    (lines ≡ not_told)
    ⊎ ((names : List Named) × (statements : List DoStatement) × IsOutlineOf source names statements
    × ((rows : BTreeMap ℕ Row) × (lines ≡ loop_lines names statements rows is_alone turns)))

-- ---- all of it

-- the ending and the turns, what became of DO statements by stages, what there is to explain, and
-- further broken rules
pub record AreTold (report : Report) (asked : Options) (source : List ℕ) (old new : Told) : Type 0
  where
    pub stages : List ℕ
    pub matter : Option Matter
    pub explained : List ℕ
    pub hint : List ℕ
    pub further : List ℕ
    pub are_stages : Given (is_staged asked report.ending)
        (AreStages source (is_alone asked) report.turns) stages
    pub is_matter : IsMatter report.ending matter
    pub explains : Given asked.explain (Explains (file_named asked.file) source matter) explained
    pub hinted : Given asked.explain (IsHinted source (cause_of report.ending)) hint
    pub are_further : Given (is_further asked report.ending)
        (AreAlso (explained_first asked report.ending) (file_named asked.file) source) further
    pub told : IsTold (lines_of asked.count report ++ stages ++ explained ++ hint ++ further) old
        new
