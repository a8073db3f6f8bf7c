-- The same members in any order, each as often: the kit's permutation under its usual name.
use mathlib.Core.List.{List, Perm}

abbrev pub Permutation : {A : Type 0} → List A → List A → Type 0
Permutation xs ys = Perm xs ys
