use Rattle.std.proofs.Common.{◌≡◌, ◌∷◌, ℕ, List, [], Ok, Err, inl, inr, refl, subst, pos}
use Rattle.meaning.specs.Stores.{World, IsLater}
use Rattle.meaning.specs.declared.ending.FaultKind.TheVariants.{F2}
use Rattle.meaning.specs.declared.syntax.Tree.{Tree}
use Rattle.meaning.proofs.Stores.{reads_so}
use Rattle.storage.specs.Checked.{count_in}
use Rattle.postfix.specs.declared.code.Code.{Code}
use Rattle.postfix.specs.declared.order.Opcode.{Opcode}
use Rattle.postfix.specs.declared.prepared.Reached.{Reached}
use Rattle.postfix.specs.declared.prepared.Reached.TheVariants as reached
use Rattle.postfix.specs.Endings.{ended}
use Rattle.postfix.specs.Machine.{calls_to, run}
use Rattle.postfix.specs.Orders.{acts}
use Rattle.postfix.specs.Within.{AreFew, AreReady, IsEndingWithin}
use Rattle.postfix.specs.Reached.{ComesToCall, IsReached}
use Rattle.program.specs.Codes.{callable_in}
use Rattle.program.specs.Kept.{AreFunctions}
use Rattle.values.specs.Ordered.{IsReachedIn}
use Rattle.values.proofs.Running.{number_is}
use Rattle.values.proofs.codes.number_in.Goals as goal

reached_in : (t : Tree) (n k : ℕ) (fs : List Code) (u v : World) (os : List Opcode) (r : Reached) → n ≡ count_in t → k ≡ callable_in t → AreFunctions t fs → IsReached n u v os r → IsReachedIn t u v os r
reached_in t n k fs u v os (reached.Number x e rest) many all have h =
    record {
      reads = reads_so _ _ _ _ (h.reads (calls_to n fs k)) (λ m is c same. number_is t n k [] fs many all refl have c m (Ok x) (subst (λ l. run n (calls_to n fs k) [] l 0 (pos 0 ∷ []) m ≡ Ok x) same is));
      end = h.end;
      fits = subst (λ j. AreReady j (acts rest.now)) many h.ready;
      within = subst (λ j. IsEndingWithin j (ended e)) many h.within;
      few = subst AreFew many h.few;
      fewer = h.fewer;
    }
reached_in t n k fs u v os reached.Otherwise many all have (inl f) =
    inl (record {
      kind = f.kind;
      reads = reads_so _ _ _ _ (f.reads (calls_to n fs k)) (λ m is c same. number_is t n k [] fs many all refl have c m (Err f.kind) (subst (λ l. run n (calls_to n fs k) [] l 0 (pos 0 ∷ []) m ≡ Err f.kind) same is));
    })
reached_in t n k fs u v os reached.Otherwise many all have (inr call) = inr (subst (λ j. ComesToCall j u v os) many call)

pub returns-clause-reached : goal.returns-clause-reached
returns-clause-reached g c =
    let r = c.frame_of-frame.result in
    let f = c.frame_of-frame.ensures in
    reached_in c.args.program.now c.args.cells r.callable r.functions.now _ _ c.args.orders.now c.number_reached.result c.requires.counted f.callable f.functions c.number_reached.ensures.reached

grown : (n : ℕ) (u v : World) (os : List Opcode) (r : Reached) → IsReached n u v os r → IsLater u v
grown n u v os (reached.Number x e rest) h = (h.reads (λ at args m. Err F2)).grows
grown n u v os reached.Otherwise (inl f) = (f.reads (λ at args m. Err F2)).grows
grown n u v os reached.Otherwise (inr call) = (call.reads (λ at args m. Err F2)).grows

pub returns-clause-later : goal.returns-clause-later
returns-clause-later g c = grown _ _ _ c.args.orders.now c.number_reached.result c.number_reached.ensures.reached
