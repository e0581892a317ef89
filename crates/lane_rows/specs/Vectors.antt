-- Vectors of sixteen bytes, which a proof sees as the list of their lanes. These words are the code's own.
--   HasLanes v f                      v has sixteen lanes, and lane k holds f k
--   AreBelow n v                      each lane holds less than n
--   IsStored old new at v             the lanes of v stand in new from the place at on, and else new is old
--   IsStepped f old ys new at         at sixteen places from at on, new has f of the numbers in old and ys, and else it is old
--   IsSteppedTo f old ys new n        the first n places of new have f of the numbers in old and ys, and else new is old
--   IsFirstIn row at n                n is the first of the sixteen places from at on with another number than 0, 16 if none is
use Rattle.std.specs.Prelude.{◌≡◌, ◌≢◌, ℕ, ◌+◌, ◌<◌, ◌≤◌, List, length, slice_index}

pub record HasLanes (v : List ℕ) (f : ℕ → ℕ) : Type 0 where
  pub long : length v ≡ 16
  pub each : (k : ℕ) → k < 16 → slice_index v k ≡ f k

abbrev pub AreBelow : ℕ → List ℕ → Type 0
AreBelow n v = (k : ℕ) → k < 16 → slice_index v k < n

pub record IsStored (old new : List ℕ) (at : ℕ) (v : List ℕ) : Type 0 where
  pub long : length new ≡ length old
  pub here : (k : ℕ) → k < 16 → slice_index new (at + k) ≡ slice_index v k
  pub before : (k : ℕ) → k < at → slice_index new k ≡ slice_index old k
  pub after : (k : ℕ) → at + 16 ≤ k → slice_index new k ≡ slice_index old k

pub record IsStepped (f : ℕ → ℕ → ℕ) (old ys new : List ℕ) (at : ℕ) : Type 0 where
  pub long : length new ≡ length old
  pub here : (k : ℕ) → k < 16 → slice_index new (at + k) ≡ f (slice_index old (at + k)) (slice_index ys (at + k))
  pub before : (k : ℕ) → k < at → slice_index new k ≡ slice_index old k
  pub after : (k : ℕ) → at + 16 ≤ k → slice_index new k ≡ slice_index old k

pub record IsSteppedTo (f : ℕ → ℕ → ℕ) (old ys new : List ℕ) (n : ℕ) : Type 0 where
  pub done : (k : ℕ) → k < n → slice_index new k ≡ f (slice_index old k) (slice_index ys k)
  pub rest : (k : ℕ) → n ≤ k → slice_index new k ≡ slice_index old k

pub record IsFirstIn (row : List ℕ) (at n : ℕ) : Type 0 where
  pub within : n ≤ 16
  pub zeros : (k : ℕ) → at ≤ k → k < at + n → slice_index row k ≡ 0
  pub other : n < 16 → slice_index row (at + n) ≢ 0
