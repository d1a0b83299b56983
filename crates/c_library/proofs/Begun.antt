-- From the main theorem over a sink that had no bytes to the bytes alone.
use Rattle.std.proofs.Common.{◌≡◌, ℕ, ◌≤◌, List, [], ◌++◌, length, take, drop, Option, None, Some, sym, ◌∙◌, ap, append_assoc, arith}
use Rattle.std.proofs.lemmas.List.{append-nil, take-append-drop}
use Rattle.std.proofs.lemmas.List.Folds.{concat-append}
use Rattle.std.specs.Io.KnownBytes.{Appends}
use Rattle.std.specs.List.{concat}
use Rattle.meaning.specs.declared.ending.Report.{Report}
use Rattle.meaning.specs.declared.ending.Ending.TheVariants as endings
use Rattle.meaning.specs.Answers.{answer}
use Rattle.meaning.specs.Promise.{Told, Keeps, whole, cut_short, broken_off}
use Rattle.c_library.specs.Runs.{IsBeginning, Ran}
use Rattle.c_library.specs.Runs as runs

-- what came to no bytes is all of them
grown : (old new : Option (List ℕ)) (more bytes : List ℕ) → Appends old new more → old ≡ Some [] → new ≡ Some bytes → bytes ≡ more
grown None new more bytes a e f = absurd cc
grown (Some xs) None more bytes a e f = absurd cc
grown (Some xs) (Some ys) more bytes a e f = grind (arith, a, e, f)

-- however a run ended, its bytes are a beginning
pub begins : (source : List ℕ) (turns : ℕ) (report : Report) (bytes : List ℕ) (old new : Told) → Keeps (answer source turns) old new report → old.bytes ≡ Some [] → new.bytes ≡ Some bytes → IsBeginning source turns bytes
begins source turns report bytes old new (whole w) e f =
    record { lost = []; parts = sym (grown old.bytes new.bytes _ bytes w.bytes.bytes_grew e f) ∙ sym (append-nil bytes) }
begins source turns report bytes old new (cut_short w) e f =
    let g : bytes ≡ concat w.bytes.taken = grown old.bytes new.bytes _ bytes w.bytes.after.bytes_grew e f in
    record { lost = concat w.bytes.left; parts = ap concat w.bytes.parts ∙ (concat-append w.bytes.taken w.bytes.left ∙ ap (λ bs. bs ++ concat w.bytes.left) (sym g)) }
begins source turns report bytes old new (broken_off w) e f =
    let g : bytes ≡ w.bytes.taken = grown old.bytes new.bytes _ bytes w.bytes.after.bytes_grew e f in
    record { lost = w.bytes.lost; parts = w.bytes.parts ∙ ap (λ bs. bs ++ w.bytes.lost) (sym g) }

-- and so are fewer of them
pub begins-cut : (source : List ℕ) (turns n : ℕ) (bytes : List ℕ) → IsBeginning source turns bytes → IsBeginning source turns (take n bytes)
begins-cut source turns n bytes b =
    record {
      lost = drop n bytes ++ b.lost;
      parts = b.parts ∙ (ap (λ bs. bs ++ b.lost) (sym (take-append-drop n bytes)) ∙ append_assoc (take n bytes) (drop n bytes) b.lost);
    }

-- where no write was refused, the answer is whole or memory was refused
pub unrefused : (source : List ℕ) (turns room : ℕ) (report : Report) (bytes : List ℕ) (old new : Told) → Keeps (answer source turns) old new report → old.bytes ≡ Some [] → new.bytes ≡ Some bytes → (report.ending ≡ endings.WriteRefused → ⊥) → length bytes ≤ room → Ran source turns room report bytes
unrefused source turns room report bytes old new (whole w) e f n fits =
    runs.whole (record { same_bytes = grown old.bytes new.bytes _ bytes w.bytes.bytes_grew e f; same_report = w.same_ending }) fits
unrefused source turns room report bytes old new (cut_short w) e f n fits =
    runs.cut_short (begins source turns report bytes old new (cut_short w) e f) fits w.says_so
unrefused source turns room report bytes old new (broken_off w) e f n fits = absurd (n (ap (λ r. r.ending) w.says_so))
