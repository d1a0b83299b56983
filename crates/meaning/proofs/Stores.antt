-- Reading and writing a store: what is known, what is kept, and when other values could have been read.
use Rattle.std.proofs.Common.{◌≡◌, ℕ, ℤ, ◌==◌, ◌||◌, Bool, true, false, IsTrue, if◌then◌else◌, Option, Some, None, IsSome, unwrap_or, refl, sym, ap, ◌∙◌, subst, inl, inr}
use Rattle.std.proofs.Math.Path.{fun_ext}
use Rattle.std.proofs.lemmas.Bool.{eq-eqb, true≢false, false≢true}
use Rattle.meaning.specs.Stores.{Cells, World, overlay, known, with_exposed, after_read, lose, LeavesRead, after_write, IsLater, Agrees, Reads, Does, with_value}

-- ---- what is known

known-after_read : (c : ℕ) (w : World) → known (after_read c w) ≡ known w
unfolding known after_read
known-after_read c w = refl

known-lose : (w : World) → known (lose w) ≡ known w
unfolding known lose
known-lose w = refl

-- a read leaves what is known
pub known-read : (c : ℕ) (before after : World) → LeavesRead c before after → known after ≡ known before
known-read c before after (inl read) = ap known read ∙ known-after_read c before
known-read c before after (inr (none, lost)) = ap known lost ∙ known-lose before

unwrap_or-if : (b : Bool) (v x : ℤ) (o : Option ℤ) → unwrap_or (if b then Some v else o) x ≡ (if b then v else unwrap_or o x)
unwrap_or-if true v x o = refl
unwrap_or-if false v x o = refl

-- a write changes its cell alone, whatever values lie below
pub overlay-after_write : (m : Cells) (c : ℕ) (v : ℤ) (w : World) (d : ℕ) → overlay m (after_write c v w).written d ≡ (if d == c then v else overlay m w.written d)
unfolding overlay after_write
overlay-after_write m c v w d = unwrap_or-if (d == c) v (m d) (w.written d)

pub known-after_write : (c : ℕ) (v : ℤ) (w : World) (d : ℕ) → known (after_write c v w) d ≡ (if d == c then v else known w d)
unfolding known overlay after_write
known-after_write c v w d = unwrap_or-if (d == c) v (w.base d) (w.written d)

-- what was written is read back
pub known_written : (c : ℕ) (v : ℤ) (before after : World) → after ≡ after_write c v before → known after c ≡ v
known_written c v before after e =
    ap (λ w. known w c) e ∙ known-after_write c v before c ∙ ap (λ b. if b then v else known before c) (eq-eqb c c refl)

-- ---- what is kept

pub later-same : (w : World) → IsLater w w
later-same w =
    record { cells = refl; base = refl; exposed = λ c h. h; written = λ c h. h; lost = λ h. h; sure = refl }

pub later-later : (u v w : World) → IsLater u v → IsLater v w → IsLater u w
later-later u v w h k =
    record { cells = k.cells ∙ h.cells; base = k.base ∙ h.base; exposed = λ c e. k.exposed c (h.exposed c e); written = λ c e. k.written c (h.written c e); lost = λ e. k.lost (h.lost e); sure = k.sure ∙ h.sure }

or-left : (a b : Bool) → IsTrue a → IsTrue (a || b)
or-left true b h = refl
or-left false b h = absurd (false≢true h)

or-right : (a b : Bool) → IsTrue b → IsTrue (a || b)
or-right true b h = refl
or-right false b h = h

with_exposed-keeps : (c : ℕ) (o : Option ℤ) (exposed : ℕ → Bool) (d : ℕ) → IsTrue (exposed d) → IsTrue (with_exposed c o exposed d)
with_exposed-keeps c (Some v) exposed d h = h
with_exposed-keeps c None exposed d h = or-right (d == c) (exposed d) h

later-after_read : (c : ℕ) (w : World) → IsLater w (after_read c w)
unfolding after_read
later-after_read c w =
    record { cells = refl; base = refl; exposed = with_exposed-keeps c (w.written c) w.exposed; written = λ d h. h; lost = λ h. h; sure = refl }

later-lose : (w : World) → IsLater w (lose w)
unfolding lose
later-lose w =
    record { cells = refl; base = refl; exposed = λ c h. h; written = λ c h. h; lost = λ h. refl; sure = refl }

-- a read exposes more, or loses
pub later-read : (c : ℕ) (before after : World) → LeavesRead c before after → IsLater before after
later-read c before after (inl read) = subst (λ w. IsLater before w) (sym read) (later-after_read c before)
later-read c before after (inr (none, lost)) =
    subst (λ w. IsLater before w) (sym lost) (later-lose before)

IsSome-if : (b : Bool) (v : ℤ) (o : Option ℤ) → IsSome o → IsSome (if b then Some v else o)
IsSome-if true v o h = refl
IsSome-if false v o h = h

-- what is written stays written
pub later-after_write : (c : ℕ) (v : ℤ) (w : World) → IsLater w (after_write c v w)
unfolding after_write
later-after_write c v w =
    record { cells = refl; base = refl; exposed = λ d h. h; written = λ d h. IsSome-if (d == c) v (w.written d) h; lost = λ h. h; sure = refl }

-- ---- values that agree with the base

-- those that agree at the end agree all along
pub agrees-earlier : (m : Cells) (before after : World) → IsLater before after → Agrees m after → Agrees m before
agrees-earlier m before after later agrees c h = agrees c (later.exposed c h) ∙ ap (λ f. f c) later.base

with_exposed-here : (c : ℕ) (o : Option ℤ) (exposed : ℕ → Bool) → o ≡ None → IsTrue (with_exposed c o exposed c)
with_exposed-here c o exposed none =
    ap (λ p. with_exposed c p exposed c) none ∙ or-left (c == c) (exposed c) (eq-eqb c c refl)

unwrap_or-either : (o : Option ℤ) (x y : ℤ) → (o ≡ None → x ≡ y) → unwrap_or o x ≡ unwrap_or o y
unwrap_or-either (Some v) x y h = refl
unwrap_or-either None x y h = h refl

overlay-after_read : (m : Cells) (c : ℕ) (w : World) → Agrees m (after_read c w) → overlay m w.written c ≡ known w c
unfolding overlay known after_read
overlay-after_read m c w agrees =
    unwrap_or-either (w.written c) (m c) (w.base c) (λ none. agrees c (with_exposed-here c (w.written c) w.exposed none))

lost-lose : (w : World) → (lose w).lost ≡ true
unfolding lose
lost-lose w = refl

-- where values agree with the base on all that a read left exposed, it would have read the same from them
pub overlay-read : (m : Cells) (c : ℕ) (before after : World) → LeavesRead c before after → after.lost ≡ false → Agrees m after → overlay m before.written c ≡ known before c
overlay-read m c before after (inl read) kept agrees =
    overlay-after_read m c before (subst (λ w. Agrees m w) read agrees)
overlay-read m c before after (inr (none, lost)) kept agrees =
    absurd (true≢false (sym (lost-lose before) ∙ sym (ap (λ (w : World). w.lost) lost) ∙ kept))

-- ---- evaluations

-- what wasn't lost behind it wasn't lost before
pub kept-earlier : (before after : World) → IsLater before after → after.lost ≡ false → before.lost ≡ false
kept-earlier before after later kept = kept-by before.lost refl
  where
    kept-by : (b : Bool) → before.lost ≡ b → before.lost ≡ false
    kept-by false e = e
    kept-by true e = absurd (true≢false (sym (later.lost e) ∙ kept))

written-after_read : (c : ℕ) (w : World) → (after_read c w).written ≡ w.written
unfolding after_read
written-after_read c w = refl

written-lose : (w : World) → (lose w).written ≡ w.written
unfolding lose
written-lose w = refl

unwritten-read : (c : ℕ) (before after : World) → LeavesRead c before after → after.written ≡ before.written
unwritten-read c before after (inl read) = ap (λ (w : World). w.written) read ∙ written-after_read c before
unwritten-read c before after (inr (none, lost)) = ap (λ (w : World). w.written) lost ∙ written-lose before

-- nothing read
pub reads_nothing : (w : World) (Q : Cells → Type 0) → ((m : Cells) → Q m) → Reads w w Q
reads_nothing w Q h = record { grows = later-same w; unwritten = refl; means = λ kept m agrees. h (overlay m w.written) }

-- a cell
pub reads_cell : (c : ℕ) (before after : World) → LeavesRead c before after → Reads before after (λ m. m c ≡ known before c)
reads_cell c before after read =
    record { grows = later-read c before after read; unwritten = unwritten-read c before after read; means = λ kept m agrees. overlay-read m c before after read kept agrees }

-- one behind another
pub reads_then : (u v w : World) (P Q R : Cells → Type 0) → Reads u v P → Reads v w Q → ((m : Cells) → P m → Q m → R m) → Reads u w R
reads_then u v w P Q R first second both =
    record { grows = later-later u v w first.grows second.grows; unwritten = second.unwritten ∙ first.unwritten; means = λ kept m agrees. both (overlay m u.written) (first.means (kept-earlier v w second.grows kept) m (agrees-earlier m v w second.grows agrees)) (subst (λ written. Q (overlay m written)) first.unwritten (second.means kept m agrees)) }

-- what follows from it
pub reads_so : (u v : World) (P Q : Cells → Type 0) → Reads u v P → ((m : Cells) → P m → Q m) → Reads u v Q
reads_so u v P Q reads so =
    record { grows = reads.grows; unwritten = reads.unwritten; means = λ kept m agrees. so (overlay m u.written) (reads.means kept m agrees) }

-- reading alone changes no value
pub does_read : (u v : World) (P : Cells → Type 0) (Q : Cells → Cells → Type 0) → Reads u v P → ((m : Cells) → P m → Q m m) → Does u v Q
does_read u v P Q reads so =
    record { grows = reads.grows; means = λ kept m agrees. subst (λ written. Q (overlay m u.written) (overlay m written)) (sym reads.unwritten) (so (overlay m u.written) (reads.means kept m agrees)) }

-- a write
pub does_write : (c : ℕ) (v : ℤ) (before after : World) → after ≡ after_write c v before → Does before after (λ m n. n ≡ with_value m c v)
does_write c v before after e =
    record { grows = subst (λ w. IsLater before w) (sym e) (later-after_write c v before); means = λ kept m agrees. ap (λ (w : World). overlay m w.written) e ∙ fun_ext (λ d. overlay-after_write m c v before d) }

pub does_then : (u v w : World) (P Q R : Cells → Cells → Type 0) → Does u v P → Does v w Q → ((m n k : Cells) → P m n → Q n k → R m k) → Does u w R
does_then u v w P Q R first second both =
    record { grows = later-later u v w first.grows second.grows; means = λ kept m agrees. both (overlay m u.written) (overlay m v.written) (overlay m w.written) (first.means (kept-earlier v w second.grows kept) m (agrees-earlier m v w second.grows agrees)) (second.means kept m agrees) }

-- ---- of a store that lost nothing

agrees-base : (w : World) → Agrees w.base w
agrees-base w c h = refl

pub reads_known : (u v : World) (P : Cells → Type 0) → v.lost ≡ false → Reads u v P → P (known u)
unfolding known
reads_known u v P kept reads =
    subst (λ base. P (overlay base u.written)) reads.grows.base (reads.means kept v.base (agrees-base v))

pub does_known : (u v : World) (P : Cells → Cells → Type 0) → v.lost ≡ false → Does u v P → P (known u) (known v)
unfolding known
does_known u v P kept does =
    subst (λ base. P (overlay base u.written) (overlay v.base v.written)) does.grows.base (does.means kept v.base (agrees-base v))
