use Rattle.std.proofs.Common.{◌≡◌, ◌+◌, ℕ, List, [], ◌∷◌, ◌++◌, map, take, ap, sym, subst, ◌∙◌}
use Rattle.std.proofs.lemmas.List.{map-append, take_more}
use Rattle.messages.specs.Shown.{IsTold, shown}
use Rattle.messages.proofs.Told.{told_none, told_then}
use Rattle.messages.proofs.putting.put_shown.Goals as goal

pub loop-byte-init : goal.loop-byte-init
loop-byte-init g c = told_none _

pub loop-byte-preserved : goal.loop-byte-preserved
loop-byte-preserved g c =
    let bytes : List ℕ = c.args.bytes.now in
    let at : ℕ = c.loop-byte.byte-index in
    let more : map shown (take (at + 1) bytes) ≡ map shown (take at bytes) ++ c.shown.result ∷ [] =
    ap (map shown) (take_more bytes at 0 c.loop-byte-test.true) ∙ map-append shown (take at bytes) _ ∙ ap (λ b. map shown (take at bytes) ++ b ∷ []) (sym c.shown.ensures) in
    subst (λ l. IsTold l (g.S.Sink.told c.args.err.now) (g.S.Sink.told c.put_bytes.new.err)) (sym more)
    (told_then (map shown (take at bytes)) (c.shown.result ∷ []) _ _ _ c.loop-byte.invariant c.put_bytes.ensures)
