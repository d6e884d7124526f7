-- Lines of a layer: rows and columns are lines whose places stand a stride apart.
use Rattle.std.specs.Prelude.{List, ℕ, ◌+◌, ◌*◌, get_or, set}

-- place k of a line, whose kth element stands at `at k`: v of k and of what stands there
abbrev pub store_at : (ℕ → ℕ) → (ℕ → ℕ → ℕ) → ℕ → List ℕ → List ℕ
store_at at v k s = set s (at k) (v k (get_or s (at k) 0))

-- where the kth element of the jth line stands: lines `across` apart, their elements `stride` apart
abbrev pub placed : ℕ → ℕ → ℕ → ℕ → ℕ → ℕ
placed base across stride j k = base + j * across + k * stride
