-- The pieces of a format's text, one character after another.
use Rattle.std.proofs.Common.{◌≡◌, ℕ, suc, ◌+◌, ◌<◌, ◌≤◌, Bool, true, false, ◌&&◌, ◌||◌, [], ◌∷◌, ◌++◌, length, get_or, take, drop, append_assoc, refl, sym, ap, ◌∙◌, subst, arith}
use Rattle.std.specs.Prelude.{◌==◌, ◌-◌, if◌then◌else◌, is_none, not}
use Rattle.meaning.specs.Characters.{apostrophe}
use Rattle.std.proofs.lemmas.List.{append-nil, drop_all, drop_more, length-take-le, take-append-drop, take_all, take_more}
use Rattle.std.proofs.Math.Bool.{or-true}
use Rattle.meaning.specs.Formats.{descriptors_of}
use Rattle.meaning.specs.Reading.{Text}
use Rattle.output_culprits.specs.declared.pieces.Scan.{Scan}
use Rattle.output_culprits.specs.Pieces.{IsBadPiece, depth_behind, ends_piece, is_bad, piece_from, scan_behind}

module _ (s : Scan) (text : Text) (i : ℕ) (d : ℕ) where
  abbrev c : ℕ
  c = get_or text i d

  -- what comes of the place, by whether a bad piece ends there
  abbrev step : Bool → Text
  step b = if b then drop s.start (take i text) else piece_from (scan_behind (length (take i text)) c s) (take i text ++ c ∷ []) (drop (i + 1) text)

  first_step : i < length text → piece_from s (take i text) (drop i text) ≡ step (ends_piece s c && is_bad (take i text))
  unfolding piece_from
  first_step lt = ap (piece_from s (take i text)) (drop_more text i d lt)

  pub piece_hit : i < length text → (ends_piece s c && is_bad (take i text)) ≡ true → piece_from s (take i text) (drop i text) ≡ drop s.start (take i text)
  piece_hit lt hits = first_step lt ∙ ap step hits

  pub piece_miss : i < length text → (ends_piece s c && is_bad (take i text)) ≡ false → piece_from (scan_behind i c s) (take (i + 1) text) (drop (i + 1) text) ≡ piece_from s (take i text) (drop i text)
  piece_miss lt misses =
      ap (λ n. piece_from (scan_behind n c s) (take (i + 1) text) (drop (i + 1) text)) (sym (length-take-le i text (omega arith)))
      ∙ ap (λ front. piece_from (scan_behind (length (take i text)) c s) front (drop (i + 1) text)) (take_more text i d lt)
      ∙ sym (first_step lt ∙ ap step misses)

-- the last piece
pub piece_end : (s : Scan) (text : Text) (i : ℕ) → length text ≤ i → piece_from s (take i text) (drop i text) ≡ drop s.start text
unfolding piece_from
piece_end s text i le =
    ap (piece_from s (take i text)) (drop_all i text le) ∙ ap (drop s.start) (take_all i text le)

-- one is in a group more at most
pub depth_grows : (code depth n : ℕ) → depth ≤ n → depth_behind code depth ≤ n + 1
depth_grows code depth n le = by_tests (code == 40) (code == 41)
  where
    by_tests : (a b : Bool) → (if a then suc depth else (if b then depth - 1 else depth)) ≤ n + 1
    by_tests true b = omega arith
    by_tests false true = omega arith
    by_tests false false = omega arith

either_depth : (b : Bool) (s t : Scan) (n : ℕ) → s.depth ≤ n → t.depth ≤ n → (if b then s else t).depth ≤ n
either_depth true s t n le ge = le
either_depth false s t n le ge = ge

pub scan_grows : (place code : ℕ) (s : Scan) (n : ℕ) → s.depth ≤ n → (scan_behind place code s).depth ≤ n + 1
scan_grows place code s n le =
    either_depth s.quoted (record { quoted = not (code == apostrophe); depth = s.depth; start = s.start }) (record { quoted = code == apostrophe; depth = depth_behind code s.depth; start = if ends_piece s code then suc place else s.start }) (n + 1) (omega arith) (depth_grows code s.depth n le)

and_parts : (a b : Bool) → (a && b) ≡ true → b ≡ true
and_parts true b is = is
and_parts false b is = absurd cc

-- ---- what is told is bad

hit_or_miss : (s : Scan) (front : Text) (c : ℕ) (t : Text) (b : Bool) (next : Text) → (ends_piece s c && is_bad front) ≡ b → IsBadPiece ((front ++ c ∷ []) ++ t) next → IsBadPiece (front ++ c ∷ t) (if b then drop s.start front else next)
hit_or_miss s front c t true next is later = record {
  front = take s.start front;
  behind = c ∷ t;
  parts = ap (λ f. f ++ c ∷ t) (sym (take-append-drop s.start front));
  bad = ap is_bad (take-append-drop s.start front) ∙ and_parts (ends_piece s c) (is_bad front) is;
}
hit_or_miss s front c t false next is later = subst (λ w. IsBadPiece w next) (append_assoc front (c ∷ []) t) later

pub piece_told : (s : Scan) (front t : Text) → is_none (descriptors_of (front ++ t)) ≡ true → IsBadPiece (front ++ t) (piece_from s front t)
unfolding piece_from
piece_told s front [] bad = record {
  front = take s.start front;
  behind = [];
  parts = ap (λ f. f ++ []) (sym (take-append-drop s.start front));
  bad = ap is_bad (take-append-drop s.start front) ∙ ap (λ b. (length front == 0) || b) (ap (λ f. is_none (descriptors_of f)) (sym (append-nil front)) ∙ bad) ∙ or-true (length front == 0);
}
piece_told s front (c ∷ t) bad =
    hit_or_miss s front c t (ends_piece s c && is_bad front) (piece_from (scan_behind (length front) c s) (front ++ c ∷ []) t) refl (piece_told (scan_behind (length front) c s) (front ++ c ∷ []) t (ap (λ w. is_none (descriptors_of w)) (append_assoc front (c ∷ []) t) ∙ bad))
