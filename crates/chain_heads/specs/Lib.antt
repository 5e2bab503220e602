-- heads of texts that only grow, and what two with one head have in common
pub mod Heads
