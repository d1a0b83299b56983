-- What holds of a value that is there.
use Rattle.std.specs.Prelude.{IfOk, OnOk}
use Rattle.std.proofs.Common.{Result, Ok, Err}

pub ok_then : {X E : Type 0} (P Q : X → Type 0) (r : Result X E) → IfOk r P → ((x : X) → P x → Q x) → IfOk r Q
ok_then P Q (Ok x) p f = f x p
ok_then P Q (Err e) p f = tt

pub on_ok_then : {X E : Type 0} (P Q : Type 0) (r : Result X E) → OnOk r P → (P → Q) → OnOk r Q
on_ok_then P Q (Ok x) p f = f p
on_ok_then P Q (Err e) p f = tt
