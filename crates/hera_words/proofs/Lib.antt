mod Wording
