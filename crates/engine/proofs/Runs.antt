-- A run over a writer, and the flush behind it.
use Rattle.std.proofs.Common.{◌≡◌, ◌↔◌, ℕ, Bool, true, false, List, [], ◌++◌, Option, Some, None, refl, sym, ap, ◌∙◌}
use Rattle.std.proofs.lemmas.List.{append-nil}
use Rattle.std.proofs.lemmas.List.Folds.{concat-append}
use Rattle.std.specs.List.{concat}
use Rattle.std.specs.Io.KnownBytes.{Appends, Keeps as Holds}
use Rattle.meaning.specs.declared.ending.Ending.TheVariants as kinds
use Rattle.meaning.specs.declared.ending.Report.{Report}
use Rattle.meaning.specs.Answers.{Answer, answer}
use Rattle.meaning.specs.Endings as endings
use Rattle.meaning.specs.Promise.{Keeps, Told, whole, cut_short, broken_off}
use Rattle.engine.specs.Runs.{IsKept, held}

-- bytes that were appended are there as long as they are kept
appended_still : (old mid new : Option (List ℕ)) (bs : List ℕ) → Appends old mid bs → Holds mid new → Appends old new bs
appended_still None mid new bs p q = tt
appended_still (Some xs) None new bs p q = absurd p
appended_still (Some xs) (Some ys) None bs p q = absurd q
appended_still (Some xs) (Some ys) (Some zs) bs p q = q ∙ p

module _ (a : Answer) (old mid new : Option (List ℕ)) (q : Holds mid new) where
  -- what was promised holds behind a flush
  kept_still : (r : Bool) (ran : Report) → Keeps a (held old false) (held mid r) ran → Keeps a (held old false) (held new r) ran
  kept_still r ran (whole w) =
      whole (record { bytes = record { bytes_grew = appended_still old mid new (concat a.pieces) w.bytes.bytes_grew q; stays = w.bytes.stays }; same_ending = w.same_ending })
  kept_still r ran (cut_short p) =
      let f = p.bytes in
      cut_short (record { bytes = record { taken = f.taken; left = f.left; parts = f.parts; after = record { bytes_grew = appended_still old mid new (concat f.taken) f.after.bytes_grew q; stays = f.after.stays } }; says_so = p.says_so })
  kept_still r ran (broken_off p) =
      let f = p.bytes in
      broken_off (record { bytes = record { taken = f.taken; lost = f.lost; parts = f.parts; after = record { bytes_grew = appended_still old mid new f.taken f.after.bytes_grew q; refuses = f.after.refuses } }; says_so = p.says_so })

  refused_with : (taken lost : List ℕ) → concat a.pieces ≡ taken ++ lost → Appends old mid taken → Keeps a (held old false) (held new true) endings.WriteRefused
  refused_with taken lost parts grew =
      broken_off (record { bytes = record { taken = taken; lost = lost; parts = parts; after = record { bytes_grew = appended_still old mid new taken grew q; refuses = refl } }; says_so = refl })

  -- where that is refused, the bytes are a beginning of the answer's in any case
  refused_then : (r : Bool) (ran : Report) → Keeps a (held old false) (held mid r) ran → Keeps a (held old false) (held new true) endings.WriteRefused
  refused_then r ran (whole w) =
      refused_with (concat a.pieces) [] (sym (append-nil (concat a.pieces))) w.bytes.bytes_grew
  refused_then r ran (cut_short p) =
      let f = p.bytes in
      refused_with (concat f.taken) (concat f.left) (ap concat f.parts ∙ concat-append f.taken f.left) f.after.bytes_grew
  refused_then r ran (broken_off p) =
      let f = p.bytes in
      refused_with f.taken f.lost f.parts f.after.bytes_grew

module _ (source : List ℕ) (turns : ℕ) (old mid new : Option (List ℕ)) (refused : Bool) (ran : Report) (kept : Keeps (answer source turns) (held old false) (held mid refused) ran) (q : Holds mid new) where
  pub flushed : ((ran.ending ≡ kinds.WriteRefused) ↔ (refused ≡ true)) → IsKept source turns old new ran
  flushed says =
      record { refused = refused; keeps = kept_still (answer source turns) old mid new q refused ran kept; says = says }

  pub flush_refused : IsKept source turns old new endings.WriteRefused
  flush_refused =
      record { refused = true; keeps = refused_then (answer source turns) old mid new q refused ran kept; says = (λ is. refl, λ is. refl) }
