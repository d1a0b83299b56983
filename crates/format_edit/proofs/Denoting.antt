-- A text reads as the parts of a format exactly when it denotes them.
use Rattle.std.proofs.Common.{◌≡◌, ℕ, ◌<◌, ◌≤◌, [], ◌∷◌, ◌++◌, length, Option, Some, None, IsTrue, refl, sym, ap, ◌∙◌, arith}
use Rattle.std.proofs.lemmas.Bool.{leb-true, le-leb}
use Rattle.std.proofs.lemmas.List.{append-nil}
use Rattle.meaning.specs.Reading.{Text, ◌>>=◌, when, at_end}
use Rattle.meaning.specs.Formats.{Parts, no_parts, Words, last, before, spell, spell_format, AreWell, IsWellFormat, format_meant, depth, all_meant, is_short_pass, descriptors_of, Denotes}
use Rattle.format_edit.proofs.Front.{bind_some, when_some, when_yes}
use Rattle.format_edit.proofs.Joined.{all_at, read_is, read_nothing, read_all}
use Rattle.format_edit.proofs.Sound.{some_is, all_take}
use Rattle.format_edit.proofs.Complete.{words_some, count_words, all_again}

ended : (ps : Parts) (rest : Text) (all : Parts) → at_end (ps, rest) ≡ Some all → (ps ≡ all) × (rest ≡ [])
ended ps [] all e = (some_is ps all e, refl)
ended ps (c ∷ rest) all e = absurd cc

spelled_all : (t text rest : Text) → t ≡ text ++ rest → rest ≡ [] → text ≡ t
spelled_all t text rest parts nothing = sym (parts ∙ ap (λ x. text ++ x) nothing ∙ append-nil text)

denoted : (c : ℕ) (t : Text) (ps : Parts) → descriptors_of (c ∷ t) ≡ Some ps → Denotes (c ∷ t) ps
denoted c t ps e =
    let a = bind_some (all_at (c ∷ t)) (λ x. at_end x >>= λ all. when (is_short_pass all) (Some all)) ps (sym (read_is (c ∷ t) (omega arith)) ∙ e) in
    let b = bind_some (at_end a.0) (λ all. when (is_short_pass all) (Some all)) ps a.2 in
    let s = when_some (is_short_pass b.0) (Some b.0) ps b.2 in
    let same = some_is b.0 ps s.1 in
    let f = ended a.0.0 a.0.1 b.0 b.1 in
    let m = all_take 17 (c ∷ t) a.0.0 a.0.1 a.1 in
    record {
      words = Some m.words;
      well = (m.well, le-leb (depth m.words) 16 (omega (arith, m.nests)));
      spelled = spelled_all (c ∷ t) (spell m.words) a.0.1 m.spelled f.1;
      means = m.means ∙ f.0 ∙ same;
      short = ap is_short_pass (sym same) ∙ s.0;
    }

pub read_denotes : (text : Text) (ps : Parts) → descriptors_of text ≡ Some ps → Denotes text ps
read_denotes [] ps e =
    let k : no_parts ≡ ps = some_is no_parts ps (sym (read_nothing [] refl) ∙ e) in
    record { words = None; well = tt; spelled = refl; means = k; short = ap is_short_pass (sym k) }
read_denotes (c ∷ t) ps e = denoted c t ps e

word_at_all : (ws : Words) → 0 < count_words ws
word_at_all (last w) = omega arith
word_at_all (before w comma ws) = omega arith

words_read : (ws : Words) → AreWell ws → depth ws ≤ 16 → IsTrue (is_short_pass (all_meant ws)) → descriptors_of (spell ws) ≡ Some (all_meant ws)
words_read ws well deep short =
    let e = ap all_at (sym (append-nil (spell ws))) ∙ all_again 17 ws [] well (omega arith) refl in
    let n = words_some ws [] well in
    let some : 0 < length (spell ws) = omega (arith, word_at_all ws, ap length (append-nil (spell ws))) in
    read_all (spell ws) some (all_meant ws) [] e refl ∙ when_yes (is_short_pass (all_meant ws)) (Some (all_meant ws)) short

pub denotes_read : (text : Text) (ps : Parts) → Denotes text ps → descriptors_of text ≡ Some ps
denotes_read text ps d = by_words d.words d.well d.spelled d.means
  where
    by_words : (words : Option Words) → IsWellFormat words → spell_format words ≡ text → format_meant words ≡ ps → descriptors_of text ≡ Some ps
    by_words None well spelled means = ap descriptors_of (sym spelled) ∙ read_nothing [] refl ∙ ap Some means
    by_words (Some ws) well spelled means =
        ap descriptors_of (sym spelled) ∙ words_read ws well.0 (leb-true (depth ws) 16 well.1) (ap is_short_pass means ∙ d.short) ∙ ap Some means
