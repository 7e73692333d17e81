-- Which blocks may come behind others does not depend on the parents of those.
use Rattle.std.proofs.Common.{◌≡◌, ℕ, cond, eqb, List, refl, ap}
use Rattle.std.proofs.Math.Path.{fun_ext}
use Rattle.awd_fault.specs.declared.Cause.TheVariants.{AddressNotLawful, IdOutOfSequence, CompressedBlock}
use Rattle.awd_format.specs.Shapes.{number, bytes, also, any_number, text}
use Rattle.awd_header.specs.Widths.{Sizes, widths_of}
use Rattle.awd_roster.specs.declared.record.Record.{Record}
use Rattle.awd_roster.specs.declared.record.Target.{Target}
use Rattle.awd_roster.specs.declared.record.Target.TheVariants.{Parent, Geometry, Material, Light}
use Rattle.awd_roster.specs.Table.{but_parents}
use Rattle.awd_roster.proofs.Kin.{sequence_kin, address_kin}
use Rattle.awd_bodies.specs.Fields.{address_to, matrix, lists}
use Rattle.awd_bodies.specs.Scene.{scene_head, container, mesh, light, picker}
use Rattle.awd_blocks.specs.Heads.{namespace_at, kind_at, flags_at, size_at, uncompressed, block_header}
use Rattle.awd_blocks.specs.Blocks.{kind_body, body_of, body_shape}

-- Records that tell the same but for their parents allow the same blocks behind them.
module _ (rs ss : List Record) (same : but_parents rs ≡ but_parents ss) where
  -- the same addresses
  address_to_kin : (target : Target) → address_to target rs ≡ address_to target ss
  address_to_kin target = ap (λ allowed. number 4 allowed AddressNotLawful (λ address. bytes 0)) (fun_ext (address_kin target rs ss same))

  -- so the same bodies, kind by kind
  scene_head_kin : (width : ℕ) → scene_head rs width ≡ scene_head ss width
  scene_head_kin width = ap (λ a. also a (also (matrix width) text)) (address_to_kin Parent)

  container_kin : (width : ℕ) → container rs width ≡ container ss width
  container_kin width = ap (λ h. also h lists) (scene_head_kin width)

  mesh_kin : (width : ℕ) → mesh rs width ≡ mesh ss width
  mesh_kin width = rw (address_to_kin Parent, address_to_kin Geometry, address_to_kin Material) refl

  light_kin : (width : ℕ) → light rs width ≡ light ss width
  light_kin width = rw (address_to_kin Parent) refl

  picker_kin : picker rs ≡ picker ss
  picker_kin = rw (address_to_kin Light) refl

  -- of any kind
  kind_body_kin : (w : Sizes) (kind size : ℕ) → kind_body rs w kind size ≡ kind_body ss w kind size
  unfolding kind_body
  kind_body_kin w kind size = cc (container_kin w.matrix, mesh_kin w.matrix, light_kin w.matrix, picker_kin)

  -- of any namespace
  pub body_kin : (w : Sizes) (namespace kind size : ℕ) → body_of rs w namespace kind size ≡ body_of ss w namespace kind size
  unfolding body_of
  body_kin w namespace kind size = ap (λ b. cond (eqb namespace 0) b (bytes size)) (kind_body_kin w kind size)

  -- behind a header
  pub shape_kin : (flags : ℕ) (B : List ℕ) (p : ℕ) → body_shape flags rs B p ≡ body_shape flags ss B p
  shape_kin flags B p = body_kin (widths_of flags (flags_at B p)) (namespace_at B p) (kind_at B p) (size_at B p)

  -- and the same headers
  pub header_kin : block_header rs ≡ block_header ss
  header_kin =
      ap (λ allowed. number 4 allowed IdOutOfSequence (λ id. any_number 1 (λ namespace. any_number 1 (λ kind.
      number 1 uncompressed CompressedBlock (λ flags. any_number 4 (λ size. bytes 0))))))
      (fun_ext (sequence_kin rs ss same))
