use Rattle.std.proofs.Common.{◌≡◌, take, string_bytes, subst, ap, rules, ◌∙◌}
use Rattle.std.specs.Option.{option_map}
use Rattle.std.specs.Io.KnownBytes.{Appends}
use Rattle.awd_listing.specs.Listing.{listing_of}
use Rattle.awdlist.proofs.Written.{listed}
use Rattle.awdlist.proofs.list.Goals as goal

pub returns : goal.returns
returns g c =
    let known = g.R.Read.remaining in
    let limit : c.take.result.limit ≡ 65537 = search rules in
    let inner : c.take.result.inner ≡ c.args.input = search rules in
    let cut : option_map (take c.take.result.limit) (known c.take.result.inner) ≡ option_map (take 65537) (known c.args.input) = cc (limit, inner) in
    let text = string_bytes c.in_ok-text.text in
    let told : text ≡ listing_of c.read_to_end.new.buf.items = c.in_ok-text.ensures ∙ ap listing_of c.as_slice.ensures.value in
    let put : c.as_bytes.result.now ≡ text = search rules in
    listed (known c.args.input) _ _ _ c.new-bytes.result.items c.read_to_end.new.buf.items text cut c.in_ok-read_to_end.ensures.bytes (search rules) told
    (subst (Appends _ _) put c.in_ok-write_all.ensures.bytes)
