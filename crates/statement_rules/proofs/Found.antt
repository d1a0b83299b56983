-- The formats of statements, one statement more.
use Rattle.std.proofs.Common.{◌≡◌, ℕ, ◌≤◌, ◌^◌, Bool, true, false, ◌||◌, List, [], ◌∷◌, ◌++◌, Option, Some, None, option_map, refl, sym, ap, ap₂, ◌∙◌}
use Rattle.std.specs.Prelude.{if◌then◌else◌, is_none, is_some}
use Rattle.std.specs.Global.{Vec}
use Rattle.std.specs.Map.{lookup}
use Rattle.std.specs.Option.{option_or}
use Rattle.std.specs.Str.{bytes_eq}
use Rattle.std.proofs.lemmas.List.Folds.{list_any-append}
use Rattle.std.proofs.lemmas.Slice.Eq.{bytes_eq-Decides}
use Rattle.indexmap.specs.IndexMap.{IndexMap}
use Rattle.meaning.specs.Execution.{descriptors_if, format_found, or_else}
use Rattle.meaning.specs.Formats.{Parts, descriptors_of, format_in, undoubled}
use Rattle.meaning.specs.LabelRules.{has_label, is_label_at}
use Rattle.meaning.specs.Syntax.{ItemTree, ShapeTree, format}
use Rattle.format_edit.specs.Constants.{constant_format, has_constant, stands_in}
use Rattle.format_edit.specs.Formatted.{descriptors}
use Rattle.format_edit.specs.declared.format.Format.{Format}
use Rattle.name_maps.specs.Keeping.{kept_at}
use Rattle.rule_passes.proofs.Membership.{or_swap, or_false}
use Rattle.statement_rules.specs.declared.reading.Formats.{Formats}
use Rattle.statement_rules.specs.FormatLabels.{is_unread}
use Rattle.statement_rules.specs.FormatsFound.{AddsFormat, AddsTexts, HoldsFormats, HoldsTexts, format_here, format_text, found_in, text_in, the_text}

-- ---- behind labels

pub found_none : (s : ℕ) → format_found [] s ≡ None
unfolding format_found
found_none s = refl

or_else-or_else : (a b c : Option Parts) → or_else a (or_else b c) ≡ or_else (or_else a b) c
or_else-or_else None b c = refl
or_else-or_else (Some x) b c = refl

or_else-none : (a : Option Parts) → or_else a None ≡ a
or_else-none None = refl
or_else-none (Some x) = refl

found_push : (ms : List ItemTree) (m : ItemTree) (s : ℕ) → format_found (ms ++ m ∷ []) s ≡ or_else (format_found ms s) (format_here s m)
unfolding format_found
found_push [] m s = or_else-none (format_here s m)
found_push (x ∷ xs) m s =
    ap (or_else (format_here s x)) (found_push xs m s) ∙ or_else-or_else (format_here s x) (format_found xs s) (format_here s m)

-- ---- in character constants

texts_by : (o : Option Format) (x : Option Parts) (k b : Bool) (f : Format) → option_map descriptors o ≡ (if k then x else None) → (b ≡ true → x ≡ Some (descriptors f)) → option_map descriptors (option_or o (if b then Some f else None)) ≡ (if b || k then x else None)
texts_by (Some g) x true true f here is = here
texts_by (Some g) x true false f here is = here
texts_by (Some g) x false b f here is = absurd cc
texts_by None x k true f here is = sym (is refl)
texts_by None x k false f here is = here

none_by : (o x : Option Parts) (k b : Bool) → o ≡ (if k then x else None) → (b ≡ true → x ≡ None) → o ≡ (if b || k then x else None)
none_by o x true true here is = here
none_by o x true false here is = here
none_by o x false true here is = here ∙ sym (is refl)
none_by o x false false here is = here

there_by : (o : Option Format) (x : Option Parts) (k b : Bool) → option_map descriptors o ≡ (if k then x else None) → (b ≡ true → is_some o ≡ true) → option_map descriptors o ≡ (if b || k then x else None)
there_by o x true true here is = here
there_by o x true false here is = here
there_by (Some g) x false true here is = absurd cc
there_by None x false true here is = let never : false ≡ true = is refl in absurd cc
there_by o x false false here is = here

told_by : (o : Option Format) (x : Option Parts) (k : Bool) → option_map descriptors o ≡ (if k then x else None) → is_some o ≡ true → false ≡ is_none x
told_by (Some g) x true here is = ap is_none here
told_by (Some g) x false here is = absurd cc
told_by None x k here is = absurd cc

module _ {S : Type 0} (m : IndexMap (Vec ℕ) Format S) (text : List ℕ) where
  same_format : (n : List ℕ) → bytes_eq n text ≡ true → format_in (undoubled n) ≡ format_in (undoubled text)
  same_format n same = ap (λ t. format_in (undoubled t)) ((bytes_eq-Decides n text).0 same)

  -- one format more
  pub texts_more : {T : Type 0} (new : IndexMap (Vec ℕ) Format T) (f : Format) → format_in (undoubled text) ≡ Some (descriptors f) → ((n : List ℕ) → kept_at new n ≡ option_or (kept_at m n) (if bytes_eq n text then Some f else None)) → AddsTexts (the_text text) m new
  texts_more new f is added these held n =
      ap (option_map descriptors) (added n)
      ∙ texts_by (kept_at m n) (format_in (undoubled n)) (these n) (bytes_eq n text) f (held n) (λ same. same_format n same ∙ is)

  -- a text that is no format
  pub texts_none : format_in (undoubled text) ≡ None → AddsTexts (the_text text) m m
  texts_none is these held n =
      none_by (text_in m n) (format_in (undoubled n)) (these n) (bytes_eq n text) (held n) (λ same. same_format n same ∙ is)

  -- a text whose format is there
  pub texts_there : is_some (kept_at m text) ≡ true → AddsTexts (the_text text) m m
  texts_there is these held n =
      there_by (kept_at m n) (format_in (undoubled n)) (these n) (bytes_eq n text) (held n) (λ same. ap (λ t. is_some (kept_at m t)) ((bytes_eq-Decides n text).0 same) ∙ is)

  pub told_there : is_some (kept_at m text) ≡ true → (these : List ℕ → Bool) → HoldsTexts these m → false ≡ is_none (format_in (undoubled text))
  told_there is these held = told_by (kept_at m text) (format_in (undoubled text)) (these text) (held text) is

pub texts_empty : {S : Type 0} (m : IndexMap (Vec ℕ) Format S) → m.entries ≡ [] → HoldsTexts (stands_in []) m
texts_empty m empty text = ap (λ es. option_map descriptors (lookup (λ k. bytes_eq text k.items) es)) empty

-- ---- one statement more

stands_push : (all : List ItemTree) (x : ItemTree) (text : List ℕ) → stands_in (all ++ x ∷ []) text ≡ (has_constant text x.shape || stands_in all text)
stands_push all x text =
    list_any-append (λ y. has_constant text y.shape) all (x ∷ [])
    ∙ or_swap (stands_in all text) (has_constant text x.shape || false)
    ∙ ap (λ b. b || stands_in all text) (or_false (has_constant text x.shape))

constants_push : (all : List ItemTree) (x : ItemTree) (text : List ℕ) (o : Option Parts) → o ≡ (if has_constant text x.shape || stands_in all text then format_in (undoubled text) else None) → o ≡ constant_format (all ++ x ∷ []) text
constants_push all x text o is =
    is ∙ ap (λ b. if b then format_in (undoubled text) else None) (sym (stands_push all x text))

under_by : (b : Bool) (s : ShapeTree) (text : List ℕ) → Some text ≡ format_text s → (if b then descriptors_of text else None) ≡ descriptors_if b s
under_by true (format own) text is = let same : text ≡ own = cc in ap descriptors_of same
under_by true s text is = absurd cc
under_by false s text is = refl

here_none : (b : Bool) (s : ShapeTree) → None ≡ format_text s → descriptors_if b s ≡ None
here_none true (format own) is = absurd cc
here_none true s is = refl
here_none false s is = refl

no_constant : (s : ShapeTree) (own text : List ℕ) → Some own ≡ format_text s → has_constant text s ≡ false
no_constant (format t) own text is = refl
no_constant s own text is = absurd cc

pub unread_text : (s : ShapeTree) (text : List ℕ) → Some text ≡ format_text s → is_none (descriptors_of text) ≡ is_unread s
unread_text (format own) text is = let same : text ≡ own = cc in ap (λ t. is_none (descriptors_of t)) same
unread_text s text is = absurd cc

module _ (all : List ItemTree) (x : ItemTree) (old new : Formats) (held : HoldsFormats all old) where
  -- a FORMAT statement
  pub format_more : (text : List ℕ) → Some text ≡ format_text x.shape → ((s : ℕ) → 2 ^ 32 ≤ s → is_label_at x.label s ≡ false) → AddsFormat x.label (descriptors_of text) old.by_label new.by_label → ((t : List ℕ) → text_in new.texts t ≡ text_in old.texts t) → HoldsFormats (all ++ x ∷ []) new
  format_more text is small added same = record {
    labelled = λ s. added s ∙ ap₂ or_else (held.labelled s) (under_by (is_label_at x.label s) x.shape text is) ∙ sym (found_push all x s);
    small = λ s big. found_push all x s ∙ ap₂ or_else (held.small s big) (ap (λ b. descriptors_if b x.shape) (small s big));
    constants = λ t. constants_push all x t _ (same t ∙ held.constants t ∙ ap (λ b. if b || stands_in all t then format_in (undoubled t) else None) (sym (no_constant x.shape text t is)));
  }

  -- another statement
  pub other_more : None ≡ format_text x.shape → ((s : ℕ) → found_in new.by_label s ≡ found_in old.by_label s) → AddsTexts (λ t. has_constant t x.shape) old.texts new.texts → HoldsFormats (all ++ x ∷ []) new
  other_more is same added = record {
    labelled = λ s. same s ∙ held.labelled s ∙ sym (or_else-none (format_found all s)) ∙ ap (or_else (format_found all s)) (sym (here_none (has_label s x) x.shape is)) ∙ sym (found_push all x s);
    small = λ s big. found_push all x s ∙ ap₂ or_else (held.small s big) (here_none (has_label s x) x.shape is);
    constants = λ t. constants_push all x t _ (added (stands_in all) held.constants t);
  }
