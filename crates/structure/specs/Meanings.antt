-- What a structure means, and its four laws.
use Rattle.std.specs.Prelude.{◌≡◌, ℕ, ◌<◌, ◌≤◌, Bool, true, List, length, slice_index, slice_index_or}
use Rattle.structure.specs.Groups.{◌∈◌, everyone, Within, Shares}

-- A yard of `size` controllers; the groups that are enough (a quorum, elsewhere); and who leads its phases, in this order.
pub record Meaning : Type 0 where
  pub size : ℕ
  pub enough : ℕ → Bool
  pub leads : List ℕ

pub record Laws (m : Meaning) : Type 0 where
  -- a yard has 1 to 16 controllers
  pub size_low : 1 ≤ m.size
  pub size_high : m.size ≤ 16
  -- the group of all controllers is enough
  pub all : m.enough (everyone m.size) ≡ true
  -- a group that contains an enough group is enough; controllers outside the yard count for nothing
  pub more : (a b : ℕ) → Within m.size a b → m.enough a ≡ true → m.enough b ≡ true
  -- any three enough groups share a controller
  pub share : (a b c : ℕ) → m.enough a ≡ true → m.enough b ≡ true → m.enough c ≡ true → Shares m.size a b c
  -- the leads are 1 to n different controllers of the yard, and every enough group contains one
  pub leads_some : 1 ≤ length m.leads
  pub leads_few : length m.leads ≤ m.size
  pub leads_inside : (j : ℕ) → j < length m.leads → slice_index m.leads j < m.size
  pub leads_differ : (j k : ℕ) → j < length m.leads → k < length m.leads → slice_index m.leads j ≡ slice_index m.leads k → j ≡ k
  pub leads_meet : (g : ℕ) → m.enough g ≡ true → (j : ℕ) × (j < length m.leads) × (slice_index_or m.leads j 0 ∈ g)
