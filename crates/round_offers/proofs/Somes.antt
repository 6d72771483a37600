-- Some holds one value, and is not None.
use Rattle.std.proofs.Common.{◌≡◌, Some, None}

pub some_once : {A : Type 0} (x y : A) → Some x ≡ Some y → x ≡ y
some_once x y e = cc

pub none_is_some : {A : Type 0} (x : A) → None ≡ Some x → ⊥
none_is_some x e = cc

pub some_is_none : {A : Type 0} (x : A) → Some x ≡ None → ⊥
some_is_none x e = cc
