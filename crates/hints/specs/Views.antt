-- The texts in which patterns are sought, with small letters raised.
use Rattle.std.specs.Prelude.{ℕ, ◌-◌, Bool, false, not, ◌||◌, ◌&&◌, ◌==◌, List, [], ◌∷◌, ◌++◌, map}
use Rattle.std.specs.Prelude.{take, drop, if◌then◌else◌}
use Rattle.std.specs.List.{flat_map, list_any}
use Rattle.meaning.specs.declared.refusal.Rule.{Rule}
use Rattle.meaning.specs.declared.refusal.Rule.TheVariants.{C1, C2, C3, C4, C5}
use Rattle.meaning.specs.Characters.{blank, apostrophe, raised}
use Rattle.meaning.specs.Kinds.{has_equals}
use Rattle.meaning.specs.Lines.{lines_of}
use Rattle.meaning.specs.Spelling.{balanced}
use Rattle.source_columns.specs.Excerpts.{excerpt}

-- a line feed stands where a line begins, and where a statement begins and ends; a carriage return
-- where an assignment or a DO statement begins
abbrev pub line_feed : ℕ
line_feed = 10

abbrev pub carriage_return : ℕ
carriage_return = 13

-- and a tab behind a statement that is cut off
abbrev pub tab : ℕ
tab = 9

-- the columns behind so many up to so many
abbrev pub columns : ℕ → ℕ → List ℕ → List ℕ
columns from to line = drop from (take to line)

-- columns 1 to 72 of a line (3.2)
abbrev pub line_view : ℕ → List ℕ → List ℕ
line_view line source =
    line_feed ∷ map raised (flat_map (columns 0 72) (take 1 (drop (line - 1) (lines_of source))))

-- columns of the lines of the statement that begins at a line, joined
abbrev pub joined : ℕ → ℕ → ℕ → List ℕ → List ℕ
joined from to line source = flat_map (columns from to) (excerpt line source)

-- the character that ends what a character begins: an apostrophe or a quotation mark itself, and
-- nothing, a line feed, what an exclamation mark begins; 0 where none begins
abbrev pub ended_by : ℕ → ℕ
ended_by c = if (c == apostrophe) || (c == 34) then c else (if c == 33 then line_feed else 0)

-- a statement's characters without blanks, without what stands between two apostrophes or quotation
-- marks, and without what stands behind an exclamation mark outside these
unfoldable pub outline : ℕ → List ℕ → List ℕ
outline ending [] = []
outline ending (c ∷ cs) =
    if ending == 0 then (if c == blank then outline 0 cs else raised c ∷ outline (ended_by c) cs)
    else (if c == ending then c ∷ outline 0 cs else outline ending cs)

-- a text that can't end where it ends, with an apostrophe or a closing parenthesis behind column 72
-- (3.2), where nothing is read
abbrev pub is_cut : List ℕ → List ℕ → Bool
is_cut text behind =
    not (balanced 0 false text) && list_any (λ c. (c == apostrophe) || (c == 41)) behind

abbrev pub marked : List ℕ → List ℕ → Bool → List ℕ
marked front outlined cut = front ++ (outlined ++ (line_feed ∷ (if cut then tab ∷ [] else [])))

abbrev pub front_of : List ℕ → List ℕ
front_of outlined = (if has_equals outlined then carriage_return else line_feed) ∷ []

-- the outline of the statement that begins at a line
abbrev pub statement_view : ℕ → List ℕ → List ℕ
statement_view line source =
    let outlined = outline 0 (joined 6 72 line source) in
    marked (front_of outlined) outlined
    (is_cut (joined 6 72 line source) (joined 72 1048576 line source))

-- a rule on lines is told at a line, and any other, with that on apostrophes, at a statement
abbrev pub view : Rule → ℕ → List ℕ → List ℕ
view C1 = line_view
view C2 = line_view
view C3 = line_view
view C4 = line_view
view C5 = line_view
view rule = statement_view
