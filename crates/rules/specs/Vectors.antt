-- Vectors of W bytes as lists: lanes, vshiftpair, vsplice, and the blocks of a window.
use Rattle.std.specs.Prelude.{ℕ, zero, suc, ◌+◌, ◌-◌, ◌*◌, ◌/◌, List, [], ◌++◌, Bool, cond, ◌&&◌, leb, length, take, drop, replicate}
use Rattle.std.proofs.Math.Seq.{paste}
use Rattle.rules.specs.Limits.{address_zero}
use Rattle.rules.specs.Elements.{to_bytes, element, operate}

-- lane 0, lane 1, .. one after the other
abbrev pub lanes : ℕ → (ℕ → List ℕ) → List ℕ
lanes zero lane = []
lanes (suc k) lane = lanes k lane ++ lane k

-- the value in each of the B = W/D lanes
unfoldable pub vsplat : (W D : ℕ) → ℕ → List ℕ
vsplat W D v = lanes (W / D) (λ k. to_bytes D v)

-- the operation, lane by lane
unfoldable pub vop : (W D operation : ℕ) → List ℕ → List ℕ → List ℕ
vop W D o v1 v2 = lanes (W / D) (λ k. to_bytes D (operate D o (element D v1 (k * D)) (element D v2 (k * D))))

-- "bytes l to l+15 of the two joined"
unfoldable pub vshiftpair : (W : ℕ) → List ℕ → List ℕ → ℕ → List ℕ
vshiftpair W v1 v2 l = take W (drop l (v1 ++ v2))

-- "the first l bytes of v1, the rest of v2; so 0 gives v2 and 16 gives v1"
unfoldable pub vsplice : List ℕ → List ℕ → ℕ → List ℕ
vsplice v1 v2 l = take l v1 ++ drop l v2

-- An address is signed, 32 bits. It is held with 2^31 added, and so the low bits are dropped downward also below zero: block
-- numbers are counted from address -2^31, and block 0 of a window is this one
unfoldable pub block_zero : (W : ℕ) → ℕ
block_zero W = address_zero / W

abbrev pub held : (W : ℕ) → ℕ → ℕ
held W address = address + W * block_zero W

-- "uses the block holding a+16j"
abbrev pub block_of : (W a j : ℕ) → ℕ
block_of W a j = (a + W * j) / W

-- whether a window of so many bytes has the block
unfoldable pub inside : (W : ℕ) → ℕ → ℕ → Bool
inside W len block = leb (block_zero W) block && leb (W * (block - block_zero W) + W) len

-- the load rule: "A load of a block outside its window gives sixteen zeros"
unfoldable pub loaded : (W : ℕ) → List ℕ → ℕ → List ℕ
loaded W w block = cond (inside W (length w) block) (take W (drop (W * (block - block_zero W)) w)) (replicate W 0)

-- the store rule, for a block inside work
unfoldable pub stored : (W : ℕ) → List ℕ → ℕ → List ℕ → List ℕ
stored W work block v = paste work (W * (block - block_zero W)) v W
