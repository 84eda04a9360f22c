mod MergeLemmas
mod PairLemmas
mod RenamedLemmas
mod ZipLemmas
